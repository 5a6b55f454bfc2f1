use mathlib.Core.Path.{◌∙◌}
use Rattle.session_lines.proofs.Heads.{named-is}
use Rattle.session_lines.proofs.head.named.Goals as goal

pub returns : goal.returns
returns c = c.starts_with.ensures.value ∙ named-is _
