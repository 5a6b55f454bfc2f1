-- The control registers: what is written and read at an offset, and which values are accepted.
use Rattle.std.specs.Prelude.{◌≡◌, Bool, true, cond, ◌&&◌, ℕ, ◌+◌, ◌*◌, ◌-◌, ◌/◌, ◌%◌, ◌^◌, ◌≤◌, ◌<◌, eqb, leb}
use Rattle.num.specs.Bits.{byte_of, with_byte}
use Rattle.tone.specs.Targets.{absolute_channel}
use Rattle.version.specs.Versions.{has3ws8pna}
use Rattle.registers.specs.Waveforms.{waveform_number, modulation_from, modulation_number}
use Rattle.version.specs.declared.SguVersion.{SguVersion}
use Rattle.registers.specs.declared.WaveformType.{WaveformType}
use Rattle.registers.specs.declared.WaveformType.TheVariants.{Wavetable}
use Rattle.registers.specs.declared.ModulationType.{ModulationType}
use Rattle.registers.specs.declared.ModulationType.TheVariants.{None}
use Rattle.registers.specs.declared.Registers.{Registers}

abbrev pub default_registers : Registers
default_registers = record { frequency = 0; waveform_type = Wavetable; volume = 0; panpot = 255; modulation_type = None; modulation_target = 0; modulation_targeting_mode = 0; modulation_param_1 = 0; modulation_param_2 = 0 }

-- ---- one register set, the others as they were

abbrev pub set_frequency : Registers → ℕ → Registers
set_frequency r x = record { frequency = x; waveform_type = r.waveform_type; volume = r.volume; panpot = r.panpot; modulation_type = r.modulation_type; modulation_target = r.modulation_target; modulation_targeting_mode = r.modulation_targeting_mode; modulation_param_1 = r.modulation_param_1; modulation_param_2 = r.modulation_param_2 }

abbrev pub set_waveform : Registers → WaveformType → Registers
set_waveform r x = record { frequency = r.frequency; waveform_type = x; volume = r.volume; panpot = r.panpot; modulation_type = r.modulation_type; modulation_target = r.modulation_target; modulation_targeting_mode = r.modulation_targeting_mode; modulation_param_1 = r.modulation_param_1; modulation_param_2 = r.modulation_param_2 }

abbrev pub set_volume : Registers → ℕ → Registers
set_volume r x = record { frequency = r.frequency; waveform_type = r.waveform_type; volume = x; panpot = r.panpot; modulation_type = r.modulation_type; modulation_target = r.modulation_target; modulation_targeting_mode = r.modulation_targeting_mode; modulation_param_1 = r.modulation_param_1; modulation_param_2 = r.modulation_param_2 }

abbrev pub set_panpot : Registers → ℕ → Registers
set_panpot r x = record { frequency = r.frequency; waveform_type = r.waveform_type; volume = r.volume; panpot = x; modulation_type = r.modulation_type; modulation_target = r.modulation_target; modulation_targeting_mode = r.modulation_targeting_mode; modulation_param_1 = r.modulation_param_1; modulation_param_2 = r.modulation_param_2 }

abbrev pub set_modulation : Registers → ModulationType → ℕ → Registers
set_modulation r m t = record { frequency = r.frequency; waveform_type = r.waveform_type; volume = r.volume; panpot = r.panpot; modulation_type = m; modulation_target = t; modulation_targeting_mode = r.modulation_targeting_mode; modulation_param_1 = r.modulation_param_1; modulation_param_2 = r.modulation_param_2 }

abbrev pub set_mode : Registers → ℕ → Registers
set_mode r x = record { frequency = r.frequency; waveform_type = r.waveform_type; volume = r.volume; panpot = r.panpot; modulation_type = r.modulation_type; modulation_target = r.modulation_target; modulation_targeting_mode = x; modulation_param_1 = r.modulation_param_1; modulation_param_2 = r.modulation_param_2 }

abbrev pub set_param1 : Registers → ℕ → Registers
set_param1 r x = record { frequency = r.frequency; waveform_type = r.waveform_type; volume = r.volume; panpot = r.panpot; modulation_type = r.modulation_type; modulation_target = r.modulation_target; modulation_targeting_mode = r.modulation_targeting_mode; modulation_param_1 = x; modulation_param_2 = r.modulation_param_2 }

abbrev pub set_param2 : Registers → ℕ → Registers
set_param2 r x = record { frequency = r.frequency; waveform_type = r.waveform_type; volume = r.volume; panpot = r.panpot; modulation_type = r.modulation_type; modulation_target = r.modulation_target; modulation_targeting_mode = r.modulation_targeting_mode; modulation_param_1 = r.modulation_param_1; modulation_param_2 = x }

-- the channel that modulates channel ch
abbrev pub target_channel : Registers → ℕ → ℕ
target_channel r ch = absolute_channel (ch % 8) r.modulation_targeting_mode r.modulation_target

-- ---- offsets

-- a value at an offset; the waveform (2), the phase reset (10) and the queue (12, 13) are the channel's
unfoldable pub write_registers : Registers → ℕ → ℕ → Registers
write_registers r offset value =
    cond (leb offset 1) (set_frequency r (with_byte (1 - offset) value r.frequency))
    (cond (eqb offset 2) r
    (cond (eqb offset 3) (set_volume r value)
    (cond (eqb offset 4) (set_panpot r value)
    (cond (eqb offset 5) (set_modulation r (modulation_from (value / 8)) (value % 8))
    (cond (leb offset 7) (set_param1 r (with_byte (7 - offset) value r.modulation_param_1))
    (cond (leb offset 9) (set_param2 r (with_byte (9 - offset) value r.modulation_param_2))
    (cond (eqb offset 11) (set_mode r (value % 2))
    r)))))))

-- the modulation's number above three bits of target
abbrev pub modulation_byte : Registers → ℕ
modulation_byte r = modulation_number r.modulation_type * 8 + r.modulation_target % 8

unfoldable pub read_registers : Registers → ℕ → ℕ
read_registers r offset =
    cond (leb offset 1) (byte_of (1 - offset) r.frequency)
    (cond (eqb offset 2) (waveform_number r.waveform_type)
    (cond (eqb offset 3) r.volume
    (cond (eqb offset 4) r.panpot
    (cond (eqb offset 5) (modulation_byte r)
    (cond (leb offset 7) (byte_of (7 - offset) r.modulation_param_1)
    (cond (leb offset 9) (byte_of (9 - offset) r.modulation_param_2)
    (cond (eqb offset 11) (r.modulation_targeting_mode % 2)
    0)))))))

-- ---- accepted values: target at most 7, mode at most 1, no FIFO voice under V1 or V2
unfoldable pub accepts_registers : Registers → SguVersion → Bool
accepts_registers r version =
    leb r.modulation_target 7
    && (leb r.modulation_targeting_mode 1
    && cond (eqb (waveform_number r.waveform_type) 5) (has3ws8pna version) true)

pub record AcceptedRegisters (r : Registers) (version : SguVersion) : Type 0 where
  pub target : r.modulation_target ≤ 7
  pub mode : r.modulation_targeting_mode ≤ 1
  pub fifo : waveform_number r.waveform_type ≡ 5 → has3ws8pna version ≡ true

-- ---- the ranges of the other registers
pub record FitRegisters (r : Registers) : Type 0 where
  pub frequency : r.frequency < 2 ^ 16
  pub volume : r.volume < 2 ^ 8
  pub panpot : r.panpot < 2 ^ 8
  pub param1 : r.modulation_param_1 < 2 ^ 16
  pub param2 : r.modulation_param_2 < 2 ^ 16
