use mathlib.Core.Path.{◌∙◌}
use Rattle.version.proofs.Texts.{among-any}
use Rattle.version.proofs.spaces.among.Goals as goal

pub returns : goal.returns
returns c = c.contains.ensures.value ∙ among-any c.args.n c.args.table.now
