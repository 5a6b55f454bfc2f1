use Rattle.decimal.proofs.Writing.{puts_small, puts-more}
use Rattle.decimal.proofs.+put_natural.Goals as goal
use Rattle.decimal.proofs.+put_natural.Goals.{then-n-ge10, else-n-ge10}

pub returns : goal.returns
returns t c =
    elim c.if-n-ge10.branch [
      | then-n-ge10 w ↦ puts-more _ _ _ _ w.if-n-ge10.true w.put_natural.ensures (rw w.out-is at c.put_byte.ensures)
      | else-n-ge10 w ↦ puts_small _ _ _ w.if-n-ge10.false (rw w.out-is at c.put_byte.ensures)
    ]
