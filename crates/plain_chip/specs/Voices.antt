-- Document 01's plain chip, one voice of it: the session's fields of a voice, the queue as a list, oldest first. There is no
-- cache and no queue head. What each call does to it is what the chip's channel does (crate voice), less the cache and the head.
use Rattle.std.specs.Prelude.{cond, List, [], ℕ, ◌-◌, ◌%◌, eqb, leb, pos, length, set, replicate}
use Rattle.num.specs.Bits.{byte_of}
use Rattle.version.specs.Versions.{has3ws8pna, has_sample_control}
use Rattle.version.specs.declared.SguVersion.{SguVersion}
use Rattle.registers.specs.Waveforms.{waveform_from, under}
use Rattle.registers.specs.Control.{default_registers, set_waveform, write_registers, read_registers}
use Rattle.registers.specs.Pcm.{default_pcm, set_sample_control, write_pcm, read_pcm}
use Rattle.registers.specs.PlainQueue.{PlainQueue, plain_pushed}
use Rattle.registers.specs.declared.Registers.{Registers}
use Rattle.registers.specs.declared.PcmRegisters.{PcmRegisters}
use Rattle.registers.specs.declared.WaveformType.{WaveformType}
use Rattle.ticks.specs.Oscillators.{default_oscillator, set_phase}
use Rattle.ticks.specs.declared.Oscillator.{Oscillator}
use Rattle.voice.specs.Kinds.{sample_of, oscillator_restarted}

pub record PlainVoice : Type 0 where
  pub registers : Registers
  pub pcm : PcmRegisters
  pub oscillator : Oscillator
  pub queue : PlainQueue
  pub wavetable : List ℕ

-- ---- a fresh voice
abbrev pub fresh_wavetable : List ℕ
fresh_wavetable = replicate 256 128

abbrev pub empty_queue : PlainQueue
empty_queue = record { samples = []; held = pos 0; hold = 0; sub = 0; latch = 0 }

abbrev pub fresh_voice : PlainVoice
fresh_voice = record { registers = default_registers; pcm = default_pcm; oscillator = default_oscillator; queue = empty_queue; wavetable = fresh_wavetable }

-- ---- one part set, the others as they were
abbrev pub with_registers : PlainVoice → Registers → PlainVoice
with_registers v x = record { registers = x; pcm = v.pcm; oscillator = v.oscillator; queue = v.queue; wavetable = v.wavetable }

abbrev pub with_pcm : PlainVoice → PcmRegisters → PlainVoice
with_pcm v x = record { registers = v.registers; pcm = x; oscillator = v.oscillator; queue = v.queue; wavetable = v.wavetable }

abbrev pub with_oscillator : PlainVoice → Oscillator → PlainVoice
with_oscillator v x = record { registers = v.registers; pcm = v.pcm; oscillator = x; queue = v.queue; wavetable = v.wavetable }

abbrev pub with_plain_queue : PlainVoice → PlainQueue → PlainVoice
with_plain_queue v x = record { registers = v.registers; pcm = v.pcm; oscillator = v.oscillator; queue = x; wavetable = v.wavetable }

abbrev pub with_wavetable : PlainVoice → List ℕ → PlainVoice
with_wavetable v x = record { registers = v.registers; pcm = v.pcm; oscillator = v.oscillator; queue = v.queue; wavetable = x }

abbrev pub with_waveform : PlainVoice → WaveformType → PlainVoice
with_waveform v x = with_registers v (set_waveform v.registers x)

abbrev pub with_latch : PlainVoice → ℕ → PlainVoice
with_latch v x = with_plain_queue v (record { samples = v.queue.samples; held = v.queue.held; hold = v.queue.hold; sub = v.queue.sub; latch = x })

-- ---- a register is written: waveform (2), phase reset (10), queue (12 and 13), sample control (26), the others
unfoldable pub plain_write_control : SguVersion → ℕ → ℕ → PlainVoice → PlainVoice
plain_write_control version offset value v =
    cond (eqb offset 2) (with_waveform v (under (waveform_from value) version))
    (cond (eqb offset 10) (with_plain_queue (with_oscillator v (oscillator_restarted v.oscillator)) empty_queue)
    (cond (eqb offset 12) (cond (has3ws8pna version) (with_latch v value) v)
    (cond (eqb offset 13) (cond (has3ws8pna version) (with_plain_queue v (plain_pushed v.queue (sample_of v.queue.latch value))) v)
    (cond (eqb offset 26) (cond (has_sample_control version) (with_pcm v (set_sample_control v.pcm (value % 8))) v)
    (with_registers v (write_registers v.registers offset value))))))

-- the PCM registers, counted from the first
unfoldable pub plain_write_pcm : ℕ → ℕ → PlainVoice → PlainVoice
plain_write_pcm offset value v = with_pcm v (write_pcm v.pcm offset value)

unfoldable pub plain_write_wave : ℕ → ℕ → PlainVoice → PlainVoice
plain_write_wave at value v = with_wavetable v (set v.wavetable at value)

-- ---- a register is read: 14 and 15 give the queue's count, its high byte first
abbrev pub count_byte : ℕ → ℕ → ℕ
count_byte offset count = cond (eqb offset 14) (byte_of 1 count) (byte_of 0 count)

unfoldable pub plain_read : SguVersion → ℕ → PlainVoice → ℕ
plain_read version offset v =
    cond (leb offset 13) (read_registers v.registers offset)
    (cond (leb offset 15) (cond (has3ws8pna version) (count_byte offset (length v.queue.samples)) 0)
    (cond (leb offset 25) (read_pcm v.pcm (offset - 16))
    (cond (eqb offset 26) (cond (has_sample_control version) v.pcm.sample_control 0)
    0)))

-- reading offset 10 clears the phase
unfoldable pub plain_after_read : ℕ → PlainVoice → PlainVoice
plain_after_read offset v = cond (eqb offset 10) (with_oscillator v (set_phase v.oscillator 0)) v

-- ---- another version: a FIFO voice becomes a wavetable voice where there is none; the queue is emptied
unfoldable pub plain_set_version : SguVersion → PlainVoice → PlainVoice
plain_set_version version v = with_plain_queue (with_waveform v (under v.registers.waveform_type version)) empty_queue
