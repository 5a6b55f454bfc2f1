use mathlib.Core.Path.{◌∙◌}
use Rattle.version.proofs.Texts.{same-by_element}
use Rattle.version.proofs.names.is_text.Goals as goal

pub returns : goal.returns
returns c = c.eq.ensures ∙ same-by_element c.args.s.now c.args.name.now
