use mathlib.Core.Path.{◌∙◌}
use Rattle.version.proofs.Texts.{leading-is}
use Rattle.version.proofs.spaces.leading.Goals as goal

pub returns : goal.returns
returns c = c.space_width.ensures ∙ leading-is _ _ _ c.args.s.now c.one_at.ensures.0 c.two_at.ensures.0 c.three_at.ensures
