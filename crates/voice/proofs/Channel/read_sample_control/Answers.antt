use Rattle.std.proofs.Common.{sym, ◌∙◌}
use Rattle.voice.specs.Reads.{read_sample_control}
use Rattle.voice.proofs.Tests.{first-arm, second-arm}
use Rattle.voice.proofs.Channel.read_sample_control.Goals as goal

pub returns-then-has_sample_control : goal.returns-then-has_sample_control
unfolding read_sample_control
returns-then-has_sample_control c = first-arm _ c.args.self.pcm.sample_control 0 (sym c.has_sample_control.ensures ∙ c.if-has_sample_control.true)

pub returns : goal.returns
unfolding read_sample_control
returns c = second-arm _ c.args.self.pcm.sample_control 0 (sym c.has_sample_control.ensures ∙ c.if-has_sample_control.false)
