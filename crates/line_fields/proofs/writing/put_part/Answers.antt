use Rattle.line_fields.proofs.Putting.{puts_first, puts-later}
use Rattle.line_fields.proofs.writing.put_part.Goals as goal

pub returns-then-k-eq0 : goal.returns-then-k-eq0
returns-then-k-eq0 c = puts_first _ _ _ _ c.if-k-eq0.true c.put_field.ensures

pub returns : goal.returns
returns c = puts-later _ _ _ _ _ c.if-k-eq0.false c.put_byte.ensures c.put_field-2.ensures
