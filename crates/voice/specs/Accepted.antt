-- The states in which a chip accepts a channel.
use Rattle.std.specs.Prelude.{◌≡◌, ℕ, Bool, true, cond, ◌&&◌}
use Rattle.registers.specs.Waveforms.{is_sqv4}
use Rattle.registers.specs.Control.{accepts_registers, AcceptedRegisters}
use Rattle.registers.specs.Pcm.{accepts_pcm, AcceptedPcm}
use Rattle.registers.specs.Queue.{accepts_fifo, AcceptedFifo}
use Rattle.version.specs.declared.SguVersion.{SguVersion}
use Rattle.stream.specs.Accepted.{accepts_cache}
use Rattle.ticks.specs.Oscillators.{accepts_oscillator}
use Rattle.voice.specs.declared.Channel.{Channel}

-- a valid cache is that of a stream voice, from its start to its end; `length` is the RAM's
unfoldable pub accepts_stream : Channel → ℕ → Bool
accepts_stream c length =
    cond c.stream.valid (is_sqv4 c.registers.waveform_type && accepts_cache c.stream c.pcm.start_addr c.pcm.end_addr length) true

unfoldable pub accepts_channel : Channel → SguVersion → ℕ → Bool
accepts_channel c version length =
    accepts_registers c.registers version
    && (accepts_pcm c.pcm
    && (accepts_oscillator c.oscillator
    && (accepts_fifo version c.fifo
    && accepts_stream c length)))

-- the same, part by part
pub record AcceptedChannel (c : Channel) (version : SguVersion) (length : ℕ) : Type 0 where
  pub registers : AcceptedRegisters c.registers version
  pub pcm : AcceptedPcm c.pcm
  pub oscillator : accepts_oscillator c.oscillator ≡ true
  pub fifo : AcceptedFifo version c.fifo
  pub stream : accepts_stream c length ≡ true
