use mathlib.Core.Path.{refl}
use native.Mathlib.Omega.{arith}
use Rattle.output.proofs.Writing.{put-copied}
use Rattle.output.proofs.Output.put_bytes.Goals as goal

pub returns : goal.returns
returns c = record { same = refl; put = put-copied _ _ _ _ _ _ _ _ c.min-start.ensures c.min-count.ensures (omega arith) c.copy_from_slice.ensures.after refl }
