-- A voice as the numbers of its line's fields, and the voice that numbers are. In range, a number is its own byte, word or long.
use Rattle.std.specs.Prelude.{Bool, true, false, List, [], ◌∷◌, ◌++◌, map, ℕ, zero, suc, ◌%◌, min, eqb, ℤ, get_or}
use Rattle.std.specs.Int.{w16}
use Rattle.std.proofs.Common.{of_z}
use Rattle.sizes.specs.Sizes.{fifo_capacity}
use Rattle.line_fields.specs.Table.{sample_of_number, states, counted, fixed}
use Rattle.registers.specs.Waveforms.{waveform_from, waveform_number, modulation_from, modulation_number}
use Rattle.registers.specs.Queue.{queued}
use Rattle.registers.specs.declared.Registers.{Registers}
use Rattle.registers.specs.declared.PcmRegisters.{PcmRegisters}
use Rattle.registers.specs.declared.Fifo.{Fifo}
use Rattle.stream.specs.Cache.{emptied}
use Rattle.ticks.specs.declared.Oscillator.{Oscillator}
use Rattle.voice.specs.declared.Channel.{Channel}

-- ---- written

abbrev pub flag : Bool → ℕ
flag true = 1
flag false = 0

-- voice, registers, PCM registers, oscillator and what the queue holds beside its samples
unfoldable pub state_numbers : ℕ → Channel → List ℕ
state_numbers voice c =
    voice
    ∷ c.registers.frequency
    ∷ waveform_number c.registers.waveform_type
    ∷ c.registers.volume
    ∷ c.registers.panpot
    ∷ modulation_number c.registers.modulation_type
    ∷ c.registers.modulation_target
    ∷ c.registers.modulation_targeting_mode
    ∷ c.registers.modulation_param_1
    ∷ c.registers.modulation_param_2
    ∷ c.pcm.start_addr
    ∷ c.pcm.end_addr
    ∷ c.pcm.loop_addr
    ∷ c.pcm.control
    ∷ c.pcm.sample_control
    ∷ flag c.pcm.active
    ∷ c.oscillator.phase
    ∷ c.oscillator.old_phase
    ∷ c.oscillator.lfsr_state
    ∷ of_z w16 c.oscillator.last_sample
    ∷ c.oscillator.slew_current
    ∷ of_z w16 c.fifo.held
    ∷ c.fifo.hold
    ∷ c.fifo.sub
    ∷ c.fifo.latch
    ∷ []

-- what stands at a place of a list, 0 past its end
abbrev pub at : List ℕ → ℕ → ℕ
at l i = get_or l i 0

-- n numbers from place i on
unfoldable pub entries : (ℕ → ℕ) → ℕ → ℕ → List ℕ
entries f i zero = []
entries f i (suc n) = f i ∷ entries f (suc i) n

unfoldable pub table_numbers : List ℕ → List ℕ
table_numbers wavetable = entries (at wavetable) 0 256

-- the queue as a list, oldest first; no more than there is room for
abbrev pub queued_of : Fifo → List ℤ → List ℤ
queued_of f q = queued q f.head (min f.count fifo_capacity)

-- the count and the samples
unfoldable pub queue_numbers : Fifo → List ℤ → List ℕ
queue_numbers f q = min f.count fifo_capacity ∷ map (of_z w16) (queued_of f q)

unfoldable pub field_numbers : ℕ → Channel → List ℕ → List ℤ → List ℕ
field_numbers voice c wavetable q = state_numbers voice c ++ (table_numbers wavetable ++ queue_numbers c.fifo q)

-- ---- read: the numbers by their places

abbrev pub low_byte : ℕ → ℕ
low_byte n = n % 256

abbrev pub low_word : ℕ → ℕ
low_word n = n % 65536

abbrev pub low_long : ℕ → ℕ
low_long n = n % 4294967296

abbrev pub registers_of : (ℕ → ℕ) → Registers
registers_of f = record {
  frequency = low_word (f 1);
  waveform_type = waveform_from (low_byte (f 2));
  volume = low_byte (f 3);
  panpot = low_byte (f 4);
  modulation_type = modulation_from (low_byte (f 5));
  modulation_target = low_byte (f 6);
  modulation_targeting_mode = low_byte (f 7);
  modulation_param_1 = low_word (f 8);
  modulation_param_2 = low_word (f 9);
}

abbrev pub pcm_of : (ℕ → ℕ) → PcmRegisters
pcm_of f = record {
  start_addr = low_long (f 10);
  end_addr = low_long (f 11);
  loop_addr = low_long (f 12);
  control = low_byte (f 13);
  sample_control = low_byte (f 14);
  active = eqb (f 15) 1;
}

abbrev pub oscillator_of : (ℕ → ℕ) → Oscillator
oscillator_of f = record {
  phase = f 16;
  old_phase = f 17;
  lfsr_state = low_long (f 18);
  last_sample = sample_of_number (f 19);
  slew_current = low_word (f 20);
}

-- the queue's head is at 0
abbrev pub fifo_of : (ℕ → ℕ) → Fifo
fifo_of f = record {
  head = 0;
  count = f counted;
  held = sample_of_number (f 21);
  hold = low_long (f 22);
  sub = low_byte (f 23);
  latch = low_byte (f 24);
}

-- with a queue; the cache is empty
unfoldable pub channel_from : (ℕ → ℕ) → Fifo → Channel
channel_from f queue = record { oscillator = oscillator_of f; fifo = queue; stream = emptied; pcm = pcm_of f; registers = registers_of f }

unfoldable pub table_of : (ℕ → ℕ) → List ℕ
table_of f = map low_byte (entries f states 256)

-- the first n of them
unfoldable pub queued_samples : (ℕ → ℕ) → ℕ → List ℤ
queued_samples f n = map sample_of_number (entries f fixed n)
