-- The PCM registers: what is written and read at an offset, and which values are accepted.
use Rattle.std.specs.Prelude.{Bool, true, cond, ◌&&◌, ℕ, ◌-◌, ◌%◌, ◌^◌, ◌≤◌, ◌<◌, eqb, leb, ltb}
use Rattle.num.specs.Bits.{byte_of, with_byte}
use Rattle.registers.specs.declared.PcmRegisters.{PcmRegisters}

abbrev pub default_pcm : PcmRegisters
default_pcm = record { start_addr = 0; end_addr = 0; loop_addr = 0; control = 0; sample_control = 0; active = true }

-- ---- one register set, the others as they were

abbrev pub set_start : PcmRegisters → ℕ → PcmRegisters
set_start p x = record { start_addr = x; end_addr = p.end_addr; loop_addr = p.loop_addr; control = p.control; sample_control = p.sample_control; active = p.active }

abbrev pub set_end : PcmRegisters → ℕ → PcmRegisters
set_end p x = record { start_addr = p.start_addr; end_addr = x; loop_addr = p.loop_addr; control = p.control; sample_control = p.sample_control; active = p.active }

abbrev pub set_loop : PcmRegisters → ℕ → PcmRegisters
set_loop p x = record { start_addr = p.start_addr; end_addr = p.end_addr; loop_addr = x; control = p.control; sample_control = p.sample_control; active = p.active }

abbrev pub set_control : PcmRegisters → ℕ → Bool → PcmRegisters
set_control p x active = record { start_addr = p.start_addr; end_addr = p.end_addr; loop_addr = p.loop_addr; control = x; sample_control = p.sample_control; active = active }

abbrev pub set_sample_control : PcmRegisters → ℕ → PcmRegisters
set_sample_control p x = record { start_addr = p.start_addr; end_addr = p.end_addr; loop_addr = p.loop_addr; control = p.control; sample_control = x; active = p.active }

abbrev pub set_active : PcmRegisters → Bool → PcmRegisters
set_active p x = record { start_addr = p.start_addr; end_addr = p.end_addr; loop_addr = p.loop_addr; control = p.control; sample_control = p.sample_control; active = x }

-- ---- offsets, counted from the first PCM register

-- an address is written from its highest byte on; control's bit 0 turns the voice on and off
unfoldable pub write_pcm : PcmRegisters → ℕ → ℕ → PcmRegisters
write_pcm p offset value =
    cond (leb offset 2) (set_start p (with_byte (2 - offset) value p.start_addr))
    (cond (leb offset 5) (set_end p (with_byte (5 - offset) value p.end_addr))
    (cond (leb offset 8) (set_loop p (with_byte (8 - offset) value p.loop_addr))
    (cond (eqb offset 9) (set_control p value (eqb (value % 2) 1))
    p)))

unfoldable pub read_pcm : PcmRegisters → ℕ → ℕ
read_pcm p offset =
    cond (leb offset 2) (byte_of (2 - offset) p.start_addr)
    (cond (leb offset 5) (byte_of (5 - offset) p.end_addr)
    (cond (leb offset 8) (byte_of (8 - offset) p.loop_addr)
    (cond (eqb offset 9) p.control
    0)))

-- ---- accepted values: sample control at most 7, addresses below 2 ^ 24
unfoldable pub accepts_pcm : PcmRegisters → Bool
accepts_pcm p =
    leb p.sample_control 7
    && (ltb p.start_addr (2 ^ 24)
    && (ltb p.end_addr (2 ^ 24)
    && ltb p.loop_addr (2 ^ 24)))

pub record AcceptedPcm (p : PcmRegisters) : Type 0 where
  pub sample_control_of : p.sample_control ≤ 7
  pub start : p.start_addr < 2 ^ 24
  pub end : p.end_addr < 2 ^ 24
  pub again : p.loop_addr < 2 ^ 24

-- ---- the range of the other register
pub record FitPcm (p : PcmRegisters) : Type 0 where
  pub control : p.control < 2 ^ 8
