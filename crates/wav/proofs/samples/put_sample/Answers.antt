use mathlib.Core.Path.{◌≡◌, ap}
use mathlib.Core.List.{List, [], ◌∷◌}
use Prim.Native.Nat.{ℕ}
use lib.ListN.{get_or}
use mir.Syntax.{w16}
use Rattle.num.proofs.Integers.{back}
use Rattle.output.proofs.Writing.{puts-append}
use Rattle.wav.proofs.Bytes.{puts-sample}
use Rattle.wav.proofs.samples.put_sample.Goals as goal

pub returns : goal.returns
returns c = puts-sample _ _ _ _ (ap (λ (l : List ℕ). get_or l 0 0 ∷ get_or l 1 0 ∷ []) (rw (back w16 _ c.ranges.sample) at c.to_le_bytes-bytes.ensures)) (puts-append _ _ _ _ _ c.put_byte.ensures c.put_byte-2.ensures)
