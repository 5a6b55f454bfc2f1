use Rattle.log_player.proofs.Batching.{Showing}
use Rattle.log_player.proofs.batches.show.Given as goal

abbrev pub invariant-loop-i : goal.invariant-loop-i
invariant-loop-i l =
    Showing l.kinds l.addresses l.values l.left l.right l.initial.out l.out l.frame l.i
