use Rattle.std.proofs.Common.{ℕ, ℤ, pos, sym}
use lib.ListN.{length-replicate}
use Rattle.s3w2_script.proofs.main.Goals as goal

pub slice_bounds-with_texts-end : goal.slice_bounds-with_texts-end
slice_bounds-with_texts-end c = sym (length-replicate {0} {A = ℕ} 1048576 85)

pub slice_bounds-with_texts-end-2 : goal.slice_bounds-with_texts-end-2
slice_bounds-with_texts-end-2 c = sym (length-replicate {0} {A = ℤ} 32784 (pos 0))
