use mir.Syntax.{w64}
use Rattle.num.proofs.Integers.{back}
use Rattle.output.proofs.Writing.{puts-append}
use Rattle.log_lines.specs.Texts.{comma_field}
use Rattle.log_lines.proofs.text.put_field.Goals as goal

pub returns : goal.returns
unfolding comma_field
returns c = puts-append _ _ _ _ _ c.put_byte.ensures (rw (back w64 _ c.ranges.value) at c.put_number.ensures)
