use Rattle.std.proofs.Common.{ℤ, pos, sym}
use lib.ListN.{length-replicate}
use Rattle.sqv4_text.proofs.print_batch.Goals as goal

pub slice_bounds-with_samples-end : goal.slice_bounds-with_samples-end
slice_bounds-with_samples-end c = sym (length-replicate {0} {A = ℤ} 2684288 (pos 0))
