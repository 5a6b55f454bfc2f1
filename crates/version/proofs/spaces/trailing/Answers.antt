use mathlib.Core.Path.{◌∙◌}
use Rattle.version.proofs.Texts.{trailing-is}
use Rattle.version.proofs.spaces.trailing.Goals as goal

pub returns : goal.returns
returns c = c.space_width.ensures ∙ trailing-is _ _ _ c.args.s.now _ _ _ c.saturating_sub.ensures c.saturating_sub-2.ensures c.saturating_sub-3.ensures c.one_at.ensures.0 c.two_at.ensures.0 c.three_at.ensures
