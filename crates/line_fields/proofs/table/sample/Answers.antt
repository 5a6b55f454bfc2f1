use borrow.Author.Rules.{sfits_of}
use mir.Syntax.{w16}
use Rattle.num.proofs.Integers.{back}
use Rattle.line_fields.specs.Table.{sample_of_number}
use Rattle.line_fields.proofs.table.sample.Goals as goal

pub returns : goal.returns
unfolding sample_of_number
returns c = rw (back w16 _ (sfits_of c.signed16.type_inv)) c.signed16.ensures
