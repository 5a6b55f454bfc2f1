use Rattle.std.proofs.Common.{ℕ, sym}
use lib.ListN.{length-replicate}
use Rattle.sqv4_text.proofs.with_samples.Goals as goal

pub slice_bounds-print_input-end : goal.slice_bounds-print_input-end
slice_bounds-print_input-end c = sym (length-replicate {0} {A = ℕ} 1048577 0)
