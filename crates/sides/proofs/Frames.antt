-- A frame's side of two cores, and sides by the frames that they were made of. Assumes nothing.
use mathlib.Core.Path.{◌≡◌, refl, sym, ap, ◌∙◌}
use mathlib.Core.Bool.{Bool, cond}
use mathlib.Core.List.{List, [], ◌++◌}
use Prim.Native.Nat.{ℕ, zero, suc, ◌+◌, ◌*◌, ◌≤◌, ◌<◌}
use native.Mathlib.Omega.{arith}
use lib.Dec.{leb}
use lib.IntN.{ℤ, pos, ◌+ℤ◌}
use lib.ListN.{length, get_or, drop, replicate, length-drop, length-append, get_or-append}
use lib.Seq.{get_or-drop, drop_at}
use borrow.Author.Tests.{le-leb, lt-leb, leb-true, leb-false}
use Rattle.sizes.specs.Sizes.{num_channels, stems_per_frame}
use Rattle.num.proofs.Choice.{cond-by}
use Rattle.num.proofs.Integers.{z-eq, z-add}
use Rattle.sides.specs.Sides.{side_sum, side_of, added}

-- ---- the frames that the second core has, and those that it has not
module _ (stems others : List ℤ) (hand n : ℕ) where
  abbrev mine : ℤ
  mine = side_sum num_channels stems (stems_per_frame * n + hand)

  abbrev its : ℤ
  its = side_sum num_channels others (stems_per_frame * n + hand)

  pub side-both : stems_per_frame * (n + 1) ≤ length others → side_of n hand stems others ≡ mine +ℤ its
  unfolding side_of
  side-both h = ap (λ (t : Bool). cond t (mine +ℤ its) mine) (le-leb (stems_per_frame * (n + 1)) (length others) h)

  pub side-alone : length others < stems_per_frame * (n + 1) → side_of n hand stems others ≡ mine
  unfolding side_of
  side-alone h = ap (λ (t : Bool). cond t (mine +ℤ its) mine) (lt-leb (stems_per_frame * (n + 1)) (length others) h)

-- by cases on whether it has the frame
pub side-by : (P : ℤ → Type 0) (stems others : List ℤ) (hand n : ℕ) → (stems_per_frame * (n + 1) ≤ length others → P (mine stems others hand n +ℤ its stems others hand n)) → (length others < stems_per_frame * (n + 1) → P (mine stems others hand n)) → P (side_of n hand stems others)
unfolding side_of
side-by P stems others hand n f g = cond-by P (leb (stems_per_frame * (n + 1)) (length others)) _ _ (λ e. f (leb-true _ _ e)) (λ e. g (leb-false _ _ e))

-- ---- sides whose frames are the same
pub added-same : {A : Type 0} (none : A) (plus : A → ℤ → A) (a b c d : List ℤ) (hand first : ℕ) (side : List A) (n : ℕ) → ((i : ℕ) → i < n → side_of i hand a b ≡ side_of i hand c d)
    → added none plus n a b hand first side ≡ added none plus n c d hand first side
unfolding added
added-same none plus a b c d hand first side zero h = refl
added-same none plus a b c d hand first side (suc n) h = rw (added-same none plus a b c d hand first side n (λ i k. h i (omega arith)), h n (omega arith)) refl

-- ---- a second core whose stems are zeros, however many
plus_none : (z : ℤ) → z +ℤ pos 0 ≡ z
plus_none z = z-eq _ _ (omega (arith, z-add z (pos 0)))

zeros : (k i : ℕ) → get_or (replicate k (pos 0)) i (pos 0) ≡ pos 0
zeros zero i = refl
zeros (suc k) zero = refl
zeros (suc k) (suc i) = zeros k i

sum_zeros : (k n from : ℕ) → side_sum n (replicate k (pos 0)) from ≡ pos 0
unfolding side_sum
sum_zeros k zero from = refl
sum_zeros k (suc n) from = rw (sum_zeros k n from, zeros k (from + 2 * n)) refl

module _ {A : Type 0} (none : A) (plus : A → ℤ → A) (stems : List ℤ) (hand first : ℕ) (side : List A) (n : ℕ) where
  pub added-silent : (k : ℕ) → added none plus n stems (replicate k (pos 0)) hand first side ≡ added none plus n stems [] hand first side
  added-silent k =
      added-same none plus stems (replicate k (pos 0)) stems [] hand first side n
      (λ i h. side-by (λ (z : ℤ). z ≡ mine stems [] hand i) stems (replicate k (pos 0)) hand i (λ _. rw (sum_zeros k num_channels (stems_per_frame * i + hand)) (plus_none _)) (λ _. refl)
      ∙ sym (side-alone stems [] hand i (omega arith)))

-- ---- frames after the first m
sum_drop : (k : ℕ) (l : List ℤ) (n from : ℕ) → side_sum n (drop k l) from ≡ side_sum n l (k + from)
unfolding side_sum
sum_drop k l zero from = refl
sum_drop k l (suc n) from =
    let e : k + (from + 2 * n) ≡ k + from + 2 * n = omega arith in
    rw (sum_drop k l n from, get_or-drop k l (from + 2 * n) (pos 0), e) refl

module _ (a b : List ℤ) (hand m : ℕ) where
  side-drop : (k : ℕ) → side_of (m + k) hand a b ≡ side_of k hand (drop (stems_per_frame * m) a) (drop (stems_per_frame * m) b)
  side-drop k =
      let e : stems_per_frame * m + (stems_per_frame * k + hand) ≡ stems_per_frame * (m + k) + hand = omega arith in
      let f : (l : List ℤ) → side_sum num_channels l (stems_per_frame * (m + k) + hand) ≡ side_sum num_channels (drop (stems_per_frame * m) l) (stems_per_frame * k + hand) = λ l. sym (sum_drop (stems_per_frame * m) l num_channels (stems_per_frame * k + hand) ∙ ap (side_sum num_channels l) e) in
      side-by (λ (z : ℤ). z ≡ side_of k hand (drop (stems_per_frame * m) a) (drop (stems_per_frame * m) b)) a b hand (m + k)
      (λ h. rw (f a, f b) (sym (side-both (drop (stems_per_frame * m) a) (drop (stems_per_frame * m) b) hand k (rw (length-drop (stems_per_frame * m) b) (omega (arith, h))))))
      (λ h. rw (f a) (sym (side-alone (drop (stems_per_frame * m) a) (drop (stems_per_frame * m) b) hand k (rw (length-drop (stems_per_frame * m) b) (omega (arith, h))))))

  pub added_more : {A : Type 0} (none : A) (plus : A → ℤ → A) (first : ℕ) (side : List A) (k : ℕ)
      → added none plus (m + k) a b hand first side ≡ added none plus k (drop (stems_per_frame * m) a) (drop (stems_per_frame * m) b) hand (first + m) (added none plus m a b hand first side)
  unfolding added
  added_more none plus first side zero =
      let e : m + 0 ≡ m = omega arith in
      ap (λ (n : ℕ). added none plus n a b hand first side) e
  added_more none plus first side (suc k) =
      let e : m + suc k ≡ suc (m + k) = omega arith in
      let f : first + (m + k) ≡ first + m + k = omega arith in
      ap (λ (n : ℕ). added none plus n a b hand first side) e ∙ rw (f, added_more none plus first side k, side-drop k) refl

-- ---- stems with more after them
sum_first : (l r : List ℤ) (from n : ℕ) → from + 2 * n ≤ length l + 1 → side_sum n (l ++ r) from ≡ side_sum n l from
unfolding side_sum
sum_first l r from zero h = refl
sum_first l r from (suc n) h = rw (sum_first l r from n (omega arith), get_or-append l r (pos 0) (from + 2 * n) (omega arith)) refl

module _ (a more b others : List ℤ) (hand m : ℕ) (one : hand ≤ 1) (ea : length a ≡ stems_per_frame * m) (eb : length b ≡ stems_per_frame * m) where
  side-first : (i : ℕ) → i < m → side_of i hand (a ++ more) (b ++ others) ≡ side_of i hand a b
  side-first i h =
      let d = length-append b others in
      side-both (a ++ more) (b ++ others) hand i (omega arith)
      ∙ rw (sum_first a more (stems_per_frame * i + hand) num_channels (omega arith), sum_first b others (stems_per_frame * i + hand) num_channels (omega arith)) refl
      ∙ sym (side-both a b hand i (omega arith))

  -- m frames and then k
  pub added-append : {A : Type 0} (none : A) (plus : A → ℤ → A) (first : ℕ) (side : List A) (k : ℕ)
      → added none plus (m + k) (a ++ more) (b ++ others) hand first side ≡ added none plus k more others hand (first + m) (added none plus m a b hand first side)
  added-append none plus first side k =
      added_more (a ++ more) (b ++ others) hand m none plus first side k
      ∙ rw (drop_at a more (stems_per_frame * m) ea, drop_at b others (stems_per_frame * m) eb, added-same none plus (a ++ more) (b ++ others) a b hand first side m side-first) refl
