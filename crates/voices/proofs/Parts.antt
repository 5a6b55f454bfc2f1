-- A part of a list, and elements set in one. Assumes nothing.
use mathlib.Core.Path.{◌≡◌, refl, sym, ap, ◌∙◌}
use mathlib.Core.List.{List, [], ◌∷◌, ◌++◌, append_assoc, map}
use Prim.Native.Nat.{ℕ, zero, suc, ◌+◌, ◌-◌, ◌≤◌}
use native.Mathlib.Omega.{arith}
use native.Mathlib.Nat.{le-add_right}
use lib.ListN.{length, take, drop, set, get_or}
use lib.Seq.{sets, sets-eq, set_out}
use borrow.Rule.Slice.PartMut.{put_mid, Post-is}

-- a part that comes back from a call
pub put-part : {A : Type 0} (l ys : List A) (a n : ℕ) → a + n ≤ length l → length ys ≡ n → put_mid a (a + n - a) l ys ≡ sets l a ys
put-part {A} l ys a n r e =
    ap (λ (z : List A). take a l ++ (ys ++ z)) (Post-is a (a + n) l (le-add_right a n) ∙ ap (λ (m : ℕ). drop (a + m) l) (sym e))
    ∙ sym (append_assoc (take a l) ys (drop (a + length ys) l)) ∙ sym (sets-eq ys l a (omega arith))

-- past the end nothing is stored
pub sets-past : {A : Type 0} (l : List A) (i : ℕ) (vs : List A) → length l ≤ i → sets l i vs ≡ l
sets-past l i [] h = refl
sets-past l i (v ∷ vs) h = ap (λ m. sets m (suc i) vs) (set_out l i v h) ∙ sets-past l (suc i) vs (omega arith)

-- ---- the first n elements changed alike
module _ {A : Type 0} (f : A → A) where
  abbrev pub changed : ℕ → List A → List A
  changed zero l = l
  changed (suc n) [] = []
  changed (suc n) (x ∷ l) = f x ∷ changed n l

  pub changed-more : (d : A) (n : ℕ) (l : List A) → set (changed n l) n (f (get_or (changed n l) n d)) ≡ changed (suc n) l
  changed-more d zero [] = refl
  changed-more d zero (x ∷ l) = refl
  changed-more d (suc n) [] = refl
  changed-more d (suc n) (x ∷ l) = ap (λ (m : List A). f x ∷ m) (changed-more d n l)

  pub changed-all : (n : ℕ) (l : List A) → length l ≤ n → changed n l ≡ map f l
  changed-all zero [] h = refl
  changed-all zero (x ∷ l) h = absurd (omega arith)
  changed-all (suc n) [] h = refl
  changed-all (suc n) (x ∷ l) h = ap (λ (m : List A). f x ∷ m) (changed-all n l (omega arith))
