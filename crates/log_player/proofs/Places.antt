-- Lists place by place: values put one after the other, parts, and frames added to a side. Assumes nothing.
use mathlib.Core.Path.{◌≡◌, refl, sym, ap, ap₂, ◌∙◌, subst}
use mathlib.Core.List.{List, [], ◌∷◌}
use Prim.Native.Nat.{ℕ, zero, suc, ◌+◌, ◌*◌, ◌≤◌, ◌<◌}
use native.Mathlib.Decide.{dec_lt}
use native.Mathlib.Omega.{arith}
use lib.IntN.{ℤ, pos, ◌+ℤ◌}
use lib.ListN.{length, length-set, length-take, length-drop, length-replicate, drop, get_or, set, replicate}
use lib.Seq.{sets, get_or-set_same, get_or-set_other, get_or-take, get_or-drop}
use Rattle.sizes.specs.Sizes.{num_channels, stems_per_frame}
use Rattle.num.specs.Lists.{part}
use Rattle.frames.proofs.Counts.{zero-add}
use Rattle.sides.specs.Sides.{side_sum, side_of, added, added_to}
use Rattle.sides.proofs.Added.{added-length}
use Rattle.sides.proofs.Frames.{side-both, side-by}

-- ---- values put one after the other
module _ {A : Type 0} (d : A) where
  pub sets_below : (vs l : List A) (i k : ℕ) → k < i → get_or (sets l i vs) k d ≡ get_or l k d
  sets_below [] l i k h = refl
  sets_below (v ∷ vs) l i k h = sets_below vs (set l i v) (suc i) k (omega arith) ∙ get_or-set_other l i k v d (λ e. absurd (omega arith))

  pub sets-above : (vs l : List A) (i k : ℕ) → i + length vs ≤ k → get_or (sets l i vs) k d ≡ get_or l k d
  sets-above [] l i k h = refl
  sets-above (v ∷ vs) l i k h = sets-above vs (set l i v) (suc i) k (omega arith) ∙ get_or-set_other l i k v d (λ e. absurd (omega arith))

  pub sets-at : (vs l : List A) (i k : ℕ) → k < length vs → i + length vs ≤ length l → get_or (sets l i vs) (i + k) d ≡ get_or vs k d
  sets-at [] l i k h r = absurd (omega arith)
  sets-at (v ∷ vs) l i zero h r =
      let e : i + 0 ≡ i = omega arith in
      ap (λ (j : ℕ). get_or (sets (set l i v) (suc i) vs) j d) e ∙ sets_below vs (set l i v) (suc i) i (omega arith) ∙ get_or-set_same l i v d (omega arith)
  sets-at (v ∷ vs) l i (suc k) h r =
      let e : i + suc k ≡ suc i + k = omega arith in
      ap (λ (j : ℕ). get_or (sets (set l i v) (suc i) vs) j d) e ∙ sets-at vs (set l i v) (suc i) k (omega arith) (omega (arith, r, length-set l i v))

pub zeros : (n i : ℕ) → get_or (replicate n (pos 0)) i (pos 0) ≡ pos 0
zeros zero i = refl
zeros (suc n) zero = refl
zeros (suc n) (suc i) = zeros n i

pub part-long : (l : List ℤ) (from n : ℕ) → from + n ≤ length l → length (part l from n) ≡ n
part-long l from n h = simp (length-take, length-drop) (omega arith)

pub part-at : (l : List ℤ) (from n i : ℕ) → i < n → get_or (part l from n) i (pos 0) ≡ get_or l (from + i) (pos 0)
part-at l from n i h = get_or-take n (drop from l) i (pos 0) h ∙ get_or-drop from l i (pos 0)

-- ---- a frame's side
sum_same : (n : ℕ) (stems other : List ℤ) (from at : ℕ) → ((m : ℕ) → m < n → get_or stems (from + 2 * m) (pos 0) ≡ get_or other (at + 2 * m) (pos 0)) → side_sum n stems from ≡ side_sum n other at
unfolding side_sum
sum_same zero stems other from at h = refl
sum_same (suc n) stems other from at h = ap₂ (λ (x y : ℤ). x +ℤ y) (sum_same n stems other from at (λ m l. h m (omega arith))) (h n (omega arith))

sum-none : (n : ℕ) (stems : List ℤ) (from : ℕ) → ((k : ℕ) → get_or stems k (pos 0) ≡ pos 0) → side_sum n stems from ≡ pos 0
unfolding side_sum
sum-none zero stems from h = refl
sum-none (suc n) stems from h = ap₂ (λ (x y : ℤ). x +ℤ y) (sum-none n stems from h) (h (from + 2 * n))

-- of two cores that are silent
pub side-none : (stems others : List ℤ) → ((k : ℕ) → get_or stems k (pos 0) ≡ pos 0) → ((k : ℕ) → get_or others k (pos 0) ≡ pos 0) → (n hand : ℕ) → side_of n hand stems others ≡ pos 0
side-none stems others h k n hand =
    side-by (λ (z : ℤ). z ≡ pos 0) stems others hand n
    (λ _. ap₂ (λ (x y : ℤ). x +ℤ y) (sum-none num_channels stems (stems_per_frame * n + hand) h) (sum-none num_channels others (stems_per_frame * n + hand) k))
    (λ _. sum-none num_channels stems (stems_per_frame * n + hand) h)

-- stems of which some stand `from` frames behind the start of others
abbrev pub Stands : ℕ → ℕ → List ℤ → List ℤ → Type 0
Stands from n whole own = (k : ℕ) → k < stems_per_frame * n → get_or whole (stems_per_frame * from + k) (pos 0) ≡ get_or own k (pos 0)

module _ (from n i hand : ℕ) (low : hand ≤ 1) (small : i < n) where
  sum-stands : (whole own : List ℤ) → Stands from n whole own → side_sum num_channels whole (stems_per_frame * (from + i) + hand) ≡ side_sum num_channels own (stems_per_frame * i + hand)
  sum-stands whole own h =
      sum_same num_channels whole own (stems_per_frame * (from + i) + hand) (stems_per_frame * i + hand)
      (λ m o.
      let j : stems_per_frame * (from + i) + hand + 2 * m ≡ stems_per_frame * from + (stems_per_frame * i + hand + 2 * m) = omega arith in
      ap (λ (k : ℕ). get_or whole k (pos 0)) j ∙ h (stems_per_frame * i + hand + 2 * m) (omega (arith, low, small, o)))

  pub side-stands : (a b c d : List ℤ) → Stands from n a c → Stands from n b d → stems_per_frame * (from + n) ≤ length b → length d ≡ stems_per_frame * n → side_of (from + i) hand a b ≡ side_of i hand c d
  side-stands a b c d h k lb ld =
      side-both a b hand (from + i) (omega arith) ∙ ap₂ (λ (x y : ℤ). x +ℤ y) (sum-stands a c h) (sum-stands b d k) ∙ sym (side-both c d hand i (omega arith))

-- ---- frames added to a side
module _ (plus : ℤ → ℤ → ℤ) (stems others : List ℤ) (hand first : ℕ) (side : List ℤ) where
  abbrev with-frames : ℕ → List ℤ
  with-frames n = added_to plus n stems others hand first side

  abbrev sum : ℕ → ℤ
  sum n = side_of n hand stems others

  added-ahead : (n i : ℕ) → n ≤ i → get_or (with-frames n) (first + i) (pos 0) ≡ get_or side (first + i) (pos 0)
  unfolding added
  added-ahead zero i h = refl
  added-ahead (suc n) i h =
      let l = with-frames n in
      get_or-set_other l (first + n) (first + i) (plus (get_or l (first + n) (pos 0)) (sum n)) (pos 0) (λ e. absurd (omega arith)) ∙ added-ahead n i (omega arith)

  added-at : (n i : ℕ) → i < n → first + n ≤ length side → get_or (with-frames n) (first + i) (pos 0) ≡ plus (get_or side (first + i) (pos 0)) (sum i)
  unfolding added
  added-at zero i h k = absurd (omega arith)
  added-at (suc n) i h k = step n i h k (λ y. added-at n i y (omega arith))
    where
      step : (n i : ℕ) → i < suc n → first + suc n ≤ length side → (i < n → get_or (with-frames n) (first + i) (pos 0) ≡ plus (get_or side (first + i) (pos 0)) (sum i))
          → get_or (set (with-frames n) (first + n) (plus (get_or (with-frames n) (first + n) (pos 0)) (sum n))) (first + i) (pos 0) ≡ plus (get_or side (first + i) (pos 0)) (sum i)
      step n i h k ih =
          let l = with-frames n in
          let v = plus (get_or l (first + n) (pos 0)) (sum n) in
          let here : get_or (set l (first + n) v) (first + n) (pos 0) ≡ plus (get_or side (first + n) (pos 0)) (sum n) =
          get_or-set_same l (first + n) v (pos 0) (omega (arith, k, added-length plus stems others hand first side n)) ∙ ap (λ (x : ℤ). plus x (sum n)) (added-ahead n n (omega arith)) in
          elim (dec_lt i n) [
            | yes y ↦ get_or-set_other l (first + n) (first + i) v (pos 0) (λ e. absurd (omega arith)) ∙ ih y
            | no y ↦ subst (λ (j : ℕ). get_or (set l (first + n) v) (first + j) (pos 0) ≡ plus (get_or side (first + j) (pos 0)) (sum j)) (last n i h y) here
          ]
        where
          last : (n i : ℕ) → i < suc n → (i < n → ⊥) → n ≡ i
          last n i h y = omega arith

-- over a side of zeros
pub added-zeros : (plus : ℤ → ℤ → ℤ) (stems others : List ℤ) (hand n m i : ℕ) → i < n → n ≤ m → get_or (added_to plus n stems others hand 0 (replicate m (pos 0))) i (pos 0) ≡ plus (pos 0) (side_of i hand stems others)
added-zeros plus stems others hand n m i h k =
    ap (λ (j : ℕ). get_or (added_to plus n stems others hand 0 (replicate m (pos 0))) j (pos 0)) (zero-add i)
    ∙ added-at plus stems others hand 0 (replicate m (pos 0)) n i h (omega (arith, length-replicate m (pos 0)))
    ∙ ap (λ (x : ℤ). plus x (side_of i hand stems others)) (zeros m (0 + i))
