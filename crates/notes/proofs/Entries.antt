-- The rule at each sum, from one test that antt computes over the whole table. Assumes nothing.
use mathlib.Core.Path.{◌≡◌, sym}
use mathlib.Core.Bool.{Bool, true, false, cond, ◌&&◌}
use mathlib.Core.List.{List, [], ◌∷◌}
use Prim.Native.Nat.{ℕ, zero, suc, ◌+◌, ◌-◌, ◌*◌, ◌≤◌, ◌<◌}
use native.Mathlib.Nat.{add-zero, add-suc, suc-add, le_of_suc-le-suc, not-suc-le-zero}
use native.Mathlib.Omega.{arith}
use lib.Dec.{ltb, leb}
use lib.ListN.{length, get_or}
use borrow.Author.Tests.{leb-true, ltb-true, lt-ltb}
use Rattle.num.proofs.Choice.{both, never}
use Rattle.notes.specs.Pitches.{top_frequency, pitch_power, border_power, NearestPitch, is_nearest, all_nearest}

-- a test that is made only where another holds
where-holds : (a b : Bool) → cond a b true ≡ true → a ≡ true → b ≡ true
where-holds true b e h = e
where-holds false b e h = never (sym h)

pub rule : (at n : ℕ) → is_nearest at n ≡ true → NearestPitch at n
rule at n e =
    let a = both (leb n top_frequency) (leb (border_power (2 * n - 1)) (pitch_power at) && above) e in
    let b = both (leb (border_power (2 * n - 1)) (pitch_power at)) above a.1 in
    record {
      cut = leb-true n top_frequency a.0;
      low = leb-true (border_power (2 * n - 1)) (pitch_power at) b.0;
      high = λ h. ltb-true (pitch_power at) (border_power (2 * n + 1)) (where-holds (ltb n top_frequency) (ltb (pitch_power at) (border_power (2 * n + 1))) b.1 (lt-ltb n top_frequency h));
    }
  where
    above : Bool
    above = cond (ltb n top_frequency) (ltb (pitch_power at) (border_power (2 * n + 1))) true

from : (xs : List ℕ) (i : ℕ) → all_nearest i xs ≡ true → (k : ℕ) → k < length xs → is_nearest (i + k) (get_or xs k 0) ≡ true
unfolding all_nearest
from [] i e k h = absurd (not-suc-le-zero h)
from (x ∷ xs) i e zero h = rw (add-zero i) (both (is_nearest i x) (all_nearest (suc i) xs) e).0
from (x ∷ xs) i e (suc k) h = rw (add-suc i k, ← suc-add i k) (from xs (suc i) (both (is_nearest i x) (all_nearest (suc i) xs) e).1 k (le_of_suc-le-suc h))

-- THE LAW: where the test holds of a whole table, counted from i, each entry is nearest to its pitch
pub nearest : (i : ℕ) (xs : List ℕ) → all_nearest i xs ≡ true → (at : ℕ) → i ≤ at → at - i < length xs → NearestPitch at (get_or xs (at - i) 0)
nearest i xs e at g h = rule at (get_or xs (at - i) 0) (rw (let q : i + (at - i) ≡ at = omega arith in q) at (from xs i e (at - i) h))
