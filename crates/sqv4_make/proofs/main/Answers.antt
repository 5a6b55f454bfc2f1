use Rattle.std.proofs.Common.{ℤ, pos, sym}
use lib.ListN.{length-replicate}
use Rattle.sqv4_make.proofs.main.Goals as goal

pub slice_bounds-with_samples-end : goal.slice_bounds-with_samples-end
slice_bounds-with_samples-end c = sym (length-replicate {0} {A = ℤ} 2540727 (pos 0))

pub with_samples-requires : goal.with_samples-requires
with_samples-requires c = length-replicate {0} {A = ℤ} 2540727 (pos 0)
