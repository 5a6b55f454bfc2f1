use mathlib.Core.Path.{sym, ◌∙◌}
use mir.Syntax.{w16, w64}
use Rattle.num.proofs.Integers.{back}
use Rattle.num.proofs.Fit.{widen16-64}
use Rattle.line_fields.proofs.Putting.{puts-sample, puts-plain}
use borrow.Author.Rules.{sfits_of}
use Rattle.line_fields.proofs.writing.put_field.Goals as goal

pub returns-then-is_sample : goal.returns-then-is_sample
returns-then-is_sample c =
    puts-sample _ _ _ _ _ (sym c.is_sample.ensures ∙ c.if-is_sample.true) c.sample.ensures
    (rw (back w16 _ (sfits_of c.sample.type_inv), back w64 _ (widen16-64 (sfits_of c.sample.type_inv))) at c.put_number.ensures)

pub returns : goal.returns
returns c = puts-plain _ _ _ _ (sym c.is_sample.ensures ∙ c.if-is_sample.false) c.put_natural.ensures
