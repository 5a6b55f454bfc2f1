use mathlib.Core.Path.{sym, ap, ◌∙◌}
use native.Mathlib.Omega.{arith}
use lib.ListN.{length}
use Rattle.line_fields.proofs.Putting.{first_part, width-part, field-most}
use Rattle.line_fields.proofs.writing.part_width.Goals as goal

pub returns-then-k-eq0 : goal.returns-then-k-eq0
returns-then-k-eq0 c = c.field_width.ensures ∙ ap length (sym (first_part _ _ c.if-k-eq0.true))

pub overflow_add-result : goal.overflow_add-result
overflow_add-result c = omega (arith, field-most c.args.k c.args.number c.ranges.number.fits)

pub returns : goal.returns
returns c = width-part _ _ _ c.if-k-eq0.false c.field_width-2.ensures
