use Rattle.std.proofs.Common.{ℕ, sym}
use lib.ListN.{length-replicate}
use Rattle.sqv4_make.proofs.with_samples.Goals as goal

pub slice_bounds-run-end-2 : goal.slice_bounds-run-end-2
slice_bounds-run-end-2 c = sym (length-replicate {0} {A = ℕ} 1048576 0)

pub run-requires : goal.run-requires
run-requires c = (c.requires, length-replicate {0} {A = ℕ} 1048576 0)
