use mir.Syntax.{w64}
use Rattle.num.proofs.Integers.{back}
use Rattle.num.proofs.Sizes.{is_below, not-below}
use Rattle.decimal.proofs.Writing.{puts-minus, puts-plus}
use Rattle.decimal.proofs.put_number.Goals as goal
use Rattle.decimal.proofs.put_number.Goals.{then-value-lt0, else-value-lt0}

pub returns : goal.returns
returns c =
    let size = rw (back w64 _ c.ranges.value) at c.unsigned_abs.ensures.value in
    elim c.if-value-lt0.branch [
      | then-value-lt0 w ↦
          puts-minus _ _ _ _ _ (is_below w64 _ c.ranges.value w.if-value-lt0.true) size w.put_byte.ensures (rw w.out-is at c.put_natural.ensures)
      | else-value-lt0 w ↦ puts-plus _ _ _ _ (not-below w64 _ c.ranges.value w.if-value-lt0.false) size (rw w.out-is at c.put_natural.ensures)
    ]
