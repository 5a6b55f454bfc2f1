use mir.Syntax.{w64}
use Rattle.num.proofs.Integers.{back}
use Rattle.output.proofs.Writing.{puts-append}
use Rattle.log_lines.specs.Texts.{pair_line}
use Rattle.log_lines.proofs.text.put_pair.Goals as goal

pub returns : goal.returns
unfolding pair_line
returns c =
    puts-append _ _ _ _ _ c.put_bytes.ensures
    (puts-append _ _ _ _ _ (rw (back w64 _ c.ranges.a) at c.put_field.ensures)
    (puts-append _ _ _ _ _ (rw (back w64 _ c.ranges.b) at c.put_field-2.ensures) c.put_byte.ensures))
