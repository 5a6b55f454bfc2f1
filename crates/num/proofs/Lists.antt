-- Parts of lists that are clipped to the list; what holds at every index. Assumes nothing.
use mathlib.Core.Path.{◌≡◌, sym, ap, ◌∙◌}
use mathlib.Core.List.{List, [], ◌∷◌, ◌++◌}
use Prim.Native.Nat.{ℕ, zero, suc, ◌+◌, ◌-◌, ◌≤◌, min}
use native.Mathlib.Nat.{add-zero}
use native.Mathlib.Omega.{arith}
use native.Mathlib.Decide.{dec_le}
use lib.ListN.{length, get_or, set, take, drop, length-drop, drop_of_length-le}
use lib.Seq.{take_all, take-nil, sets}
use Rattle.num.specs.Lists.{part}

drop-clipped : {A : Type 0} (l : List A) (k : ℕ) → drop (min k (length l)) l ≡ drop k l
drop-clipped l k =
    elim (dec_le (length l) k) [
      | yes h ↦ ap (λ (n : ℕ). drop n l) (most k (length l) h) ∙ drop_of_length-le l (least-le (length l)) ∙ sym (drop_of_length-le l h)
      | no h ↦ ap (λ (n : ℕ). drop n l) (low k (length l) h)
    ]
  where
    most : (k n : ℕ) → n ≤ k → min k n ≡ n
    most k n h = omega arith

    least-le : (n : ℕ) → n ≤ n
    least-le n = omega arith

    low : (k n : ℕ) → (n ≤ k → ⊥) → min k n ≡ k
    low k n h = omega arith

-- what is left of a list from a place on
pub clipped : {A : Type 0} (l : List A) (k at : ℕ) → at ≡ min k (length l) → take (length l - at) (drop at l) ≡ drop k l
clipped l k at e = rw e (take_all (length l - min k (length l)) (drop (min k (length l)) l) (all l k) ∙ drop-clipped l k)
  where
    all : {A : Type 0} (l : List A) (k : ℕ) → length (drop (min k (length l)) l) ≤ length l - min k (length l)
    all l k = simp length-drop (omega arith)

take-clipped : {A : Type 0} (n : ℕ) (l : List A) → take (min n (length l)) l ≡ take n l
take-clipped n l =
    elim (dec_le (length l) n) [
      | yes h ↦ take_all (min n (length l)) l (omega arith) ∙ sym (take_all n l h)
      | no h ↦ ap (λ (k : ℕ). take k l) (low n (length l) h)
    ]
  where
    low : (k n : ℕ) → (n ≤ k → ⊥) → min k n ≡ k
    low k n h = omega arith

-- what lies between two places
pub clipped-part : {A : Type 0} (l : List A) (a b end start : ℕ) → end ≡ min b (length l) → start ≡ min a end → take (end - start) (drop start l) ≡ part l a (b - a)
clipped-part l a b end start e f =
    elim (dec_le end a) [
      | yes h ↦ ap (λ (k : ℕ). take k (drop start l)) (none h) ∙ sym (empty (dec_le b a) h)
      | no h ↦
          ap (λ (k : ℕ). take (end - k) (drop k l)) (is-a h) ∙ ap (λ (k : ℕ). take k (drop a l)) (rest h)
          ∙ take-clipped (b - a) (drop a l)
    ]
  where
    none : end ≤ a → end - start ≡ 0
    none h = omega arith

    is-a : (end ≤ a → ⊥) → start ≡ a
    is-a h = omega arith

    rest : (end ≤ a → ⊥) → end - a ≡ min (b - a) (length (drop a l))
    rest h = simp length-drop (omega arith)

    empty : Dec (b ≤ a) → end ≤ a → take (b - a) (drop a l) ≡ []
    empty (yes k) h = ap (λ (n : ℕ). take n (drop a l)) (less k)
      where
        less : b ≤ a → b - a ≡ 0
        less k = omega arith
    empty (no k) h = ap (take (b - a)) (drop_of_length-le l (past k h)) ∙ take-nil (b - a)
      where
        past : (b ≤ a → ⊥) → end ≤ a → length l ≤ a
        past k h = omega arith

-- what holds at every index, and of a new element, holds after its store
pub each_set : {A : Type 0} (P : A → Type 0) (d x : A) → P x → (l : List A) → ((i : ℕ) → P (get_or l i d)) → (k i : ℕ) → P (get_or (set l k x) i d)
each_set P d x h [] e k i = e i
each_set P d x h (a ∷ l) e zero zero = h
each_set P d x h (a ∷ l) e zero (suc i) = e (suc i)
each_set P d x h (a ∷ l) e (suc k) zero = e zero
each_set P d x h (a ∷ l) e (suc k) (suc i) = each_set P d x h l (λ j. e (suc j)) k i

-- stores one behind the other
pub sets-append : {A : Type 0} (xs ys l : List A) (i : ℕ) → sets l i (xs ++ ys) ≡ sets (sets l i xs) (i + length xs) ys
sets-append [] ys l i = rw add-zero
sets-append (x ∷ xs) ys l i = sets-append xs ys (set l i x) (suc i) ∙ ap (λ (k : ℕ). sets (sets (set l i x) (suc i) xs) k ys) (omega arith)
