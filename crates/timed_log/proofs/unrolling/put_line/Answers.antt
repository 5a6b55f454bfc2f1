use Rattle.timed_log.proofs.Puts.{line-put, gap-put}
use Rattle.timed_log.proofs.unrolling.put_line.Goals as goal
use Rattle.timed_log.proofs.unrolling.put_line.Goals.{then-gap-ne0, else-gap-ne0}

pub returns : goal.returns
returns c =
    elim c.if-gap-ne0.branch [
      | then-gap-ne0 w ↦ gap-put _ _ _ _ _ w.if-gap-ne0.true w.put_clock.ensures (rw w.out-is at c.put_bytes.ensures)
      | else-gap-ne0 w ↦ line-put _ _ _ _ w.if-gap-ne0.false (rw w.out-is at c.put_bytes.ensures)
    ]
