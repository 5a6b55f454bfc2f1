use mathlib.Core.Path.{sym, ◌∙◌}
use mir.Syntax.{w16, w64}
use Rattle.num.proofs.Integers.{back}
use Rattle.num.proofs.Fit.{widen16-64}
use Rattle.line_fields.proofs.Putting.{width-sample, width-plain}
use borrow.Author.Rules.{sfits_of}
use Rattle.line_fields.proofs.writing.field_width.Goals as goal

pub returns-then-is_sample : goal.returns-then-is_sample
returns-then-is_sample c =
    width-sample _ _ _ _ (sym c.is_sample.ensures ∙ c.if-is_sample.true) c.sample.ensures
    (rw (back w16 _ (sfits_of c.sample.type_inv), back w64 _ (widen16-64 (sfits_of c.sample.type_inv))) at c.number_width.ensures)

pub returns : goal.returns
returns c = width-plain _ _ _ (sym c.is_sample.ensures ∙ c.if-is_sample.false) c.natural_width.ensures
