-- What a write at an offset makes of a channel and of its queue's entries.
use Rattle.std.specs.Prelude.{ℕ, ◌%◌, Bool, true, cond, List, ℤ, ◌==◌, nat_le}
use Rattle.version.specs.Versions.{has3ws8pna, has_sample_control}
use Rattle.registers.specs.Waveforms.{waveform_from, under}
use Rattle.registers.specs.Control.{set_waveform, write_registers}
use Rattle.registers.specs.Pcm.{set_sample_control, write_pcm}
use Rattle.registers.specs.Queue.{default_fifo, set_latch, pushed, pushed_entries}
use Rattle.version.specs.declared.SguVersion.{SguVersion}
use Rattle.stream.specs.Cache.{emptied}
use Rattle.voice.specs.Channel.{set_oscillator, set_fifo, set_stream, set_pcm, set_registers}
use Rattle.voice.specs.declared.Channel.{Channel}
use Rattle.voice.specs.Kinds.{sample_of, oscillator_restarted}

-- ---- offset 2: the waveform, and an empty cache
unfoldable pub waveform_written : SguVersion → Channel → ℕ → Channel
waveform_written version c value = set_stream (set_registers c (set_waveform c.registers (under (waveform_from value) version))) emptied

-- ---- offset 10: phase, slew, noise, queue and cache begin anew; old phase and last sample stay
unfoldable pub restarted : Channel → Channel
restarted c = set_stream (set_fifo (set_oscillator c (oscillator_restarted c.oscillator)) default_fifo) emptied

-- ---- offsets 12 and 13: the high byte is kept, the low byte pushes the sample
unfoldable pub latch_written : SguVersion → Channel → ℕ → Channel
latch_written version c value = cond (has3ws8pna version) (set_fifo c (set_latch c.fifo value)) c

unfoldable pub sample_written : SguVersion → Channel → Channel
sample_written version c = cond (has3ws8pna version) (set_fifo c (pushed c.fifo)) c

unfoldable pub sample_entries : SguVersion → Channel → List ℤ → ℕ → List ℤ
sample_entries version c q value = cond (has3ws8pna version) (pushed_entries c.fifo q (sample_of c.fifo.latch value)) q

-- ---- offset 26: sample control
unfoldable pub sample_control_written : SguVersion → Channel → ℕ → Channel
sample_control_written version c value = cond (has_sample_control version) (set_pcm c (set_sample_control c.pcm (value % 8))) c

-- ---- every offset
unfoldable pub write_control : SguVersion → Channel → ℕ → ℕ → Channel
write_control version c offset value =
    cond (offset == 2) (waveform_written version c value)
    (cond (offset == 10) (restarted c)
    (cond (offset == 12) (latch_written version c value)
    (cond (offset == 13) (sample_written version c)
    (cond (offset == 26) (sample_control_written version c value)
    (set_registers c (write_registers c.registers offset value))))))

unfoldable pub write_control_entries : SguVersion → Channel → List ℤ → ℕ → ℕ → List ℤ
write_control_entries version c q offset value = cond (offset == 13) (sample_entries version c q value) q

-- whether such a write empties the cache
abbrev pub empties_cache : ℕ → Bool
empties_cache offset = cond (offset == 2) true (offset == 10)

-- ---- the PCM registers, counted from the first: a write of one empties the cache
unfoldable pub write_pcm_reg : Channel → ℕ → ℕ → Channel
write_pcm_reg c offset value =
    cond (nat_le offset 9) (set_stream (set_pcm c (write_pcm c.pcm offset value)) emptied) (set_pcm c (write_pcm c.pcm offset value))
