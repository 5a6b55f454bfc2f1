use Rattle.std.proofs.Common.{ap, ◌∙◌}
use Rattle.stream.specs.Cache.{emptied}
use Rattle.voice.specs.Channel.{set_stream}
use Rattle.voice.specs.Writes.{restarted}
use Rattle.voice.specs.declared.Channel.{Channel}
use Rattle.voice.proofs.Channel.restart.Goals as goal

pub returns : goal.returns
unfolding restarted
returns c = c.invalidate_sqv4.ensures ∙ ap (λ (x : Channel). set_stream x emptied) c.reset_fifo.ensures
