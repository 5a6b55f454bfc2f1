use mir.Syntax.{w64}
use Rattle.num.proofs.Integers.{back}
use Rattle.output.proofs.Writing.{puts-append}
use Rattle.s3w2_notes.specs.Lines.{sum_line}
use Rattle.s3w2_notes.proofs.put_numbers.Goals as goal

pub returns : goal.returns
unfolding sum_line
returns c =
    puts-append _ _ _ _ _ (rw (back w64 _ c.ranges.sum) at c.put_number.ensures)
    (puts-append _ _ _ _ _ c.put_byte.ensures (puts-append _ _ _ _ _ c.put_natural.ensures c.put_byte-2.ensures))
