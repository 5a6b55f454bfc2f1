use Rattle.std.proofs.Common.{ap, ◌∙◌}
use Rattle.stream.specs.Cache.{emptied}
use Rattle.registers.specs.Control.{set_waveform}
use Rattle.registers.specs.Queue.{default_fifo}
use Rattle.registers.specs.declared.Registers.{Registers}
use Rattle.voice.specs.Channel.{set_fifo, set_stream, set_registers, set_channel_version}
use Rattle.voice.specs.declared.Channel.{Channel}
use Rattle.voice.proofs.Channel.set_version.Goals as goal

pub returns : goal.returns
unfolding set_channel_version
returns c =
    let s = c.args.self in
    c.invalidate_sqv4.ensures
    ∙ ap (λ (x : Channel). set_stream x emptied) c.reset_fifo.ensures
    ∙ ap (λ (x : Registers). set_stream (set_fifo (set_registers s x) default_fifo) emptied) (c.with_waveform-h.ensures ∙ ap (set_waveform s.registers) c.under.ensures)
