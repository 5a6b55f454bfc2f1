use Rattle.std.proofs.Common.{ap, ◌∙◌}
use Rattle.stream.specs.Cache.{emptied}
use Rattle.registers.specs.Waveforms.{under}
use Rattle.registers.specs.Control.{set_waveform}
use Rattle.registers.specs.declared.Registers.{Registers}
use Rattle.registers.specs.declared.WaveformType.{WaveformType}
use Rattle.voice.specs.Channel.{set_stream, set_registers}
use Rattle.voice.specs.Writes.{waveform_written}
use Rattle.voice.proofs.Channel.write_waveform.Goals as goal

pub returns : goal.returns
unfolding waveform_written
returns c =
    let a = c.args in
    c.invalidate_sqv4.ensures
    ∙ ap (λ (x : Registers). set_stream (set_registers a.self x) emptied)
    (c.with_waveform-h.ensures ∙ ap (set_waveform a.self.registers) (c.under.ensures ∙ ap (λ (w : WaveformType). under w a.version) c.from-w.ensures))
