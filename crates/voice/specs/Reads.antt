-- What is read at an offset, and what reading makes of a channel.
use Rattle.std.specs.Prelude.{ℕ, ◌-◌, Bool, false, cond, ◌&&◌, ◌==◌, nat_le, nat_lt}
use Rattle.num.specs.Bits.{byte_of}
use Rattle.version.specs.Versions.{has3ws8pna, has_sample_control}
use Rattle.registers.specs.Waveforms.{is_sqv4}
use Rattle.registers.specs.Control.{read_registers}
use Rattle.registers.specs.Pcm.{read_pcm}
use Rattle.version.specs.declared.SguVersion.{SguVersion}
use Rattle.stream.specs.Cache.{emptied}
use Rattle.ticks.specs.Oscillators.{set_phase}
use Rattle.voice.specs.Channel.{set_oscillator, set_stream}
use Rattle.voice.specs.declared.Channel.{Channel}

-- whether a byte of the RAM is one of a channel's stream
unfoldable pub streams_from : Channel → ℕ → Bool
streams_from c address =
    cond (is_sqv4 c.registers.waveform_type) (nat_le c.pcm.start_addr address && nat_lt address c.pcm.end_addr) false

-- ---- offsets 14 and 15: the queue's count, its high byte first
unfoldable pub read_queue : SguVersion → Channel → ℕ → ℕ
read_queue version c offset =
    cond (has3ws8pna version) (cond (offset == 14) (byte_of 1 c.fifo.count) (byte_of 0 c.fifo.count)) 0

-- ---- offset 26: sample control
unfoldable pub read_sample_control : SguVersion → Channel → ℕ
read_sample_control version c = cond (has_sample_control version) c.pcm.sample_control 0

-- ---- every offset: the PCM registers are at 16 to 25
unfoldable pub read_control : SguVersion → Channel → ℕ → ℕ
read_control version c offset =
    cond (nat_le offset 13) (read_registers c.registers offset)
    (cond (nat_le offset 15) (read_queue version c offset)
    (cond (nat_le offset 25) (read_pcm c.pcm (offset - 16))
    (cond (offset == 26) (read_sample_control version c)
    0)))

-- reading offset 10 clears phase and cache; the slew stays
unfoldable pub after_read : Channel → ℕ → Channel
after_read c offset = cond (offset == 10) (set_stream (set_oscillator c (set_phase c.oscillator 0)) emptied) c
