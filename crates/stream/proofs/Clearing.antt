-- A slice filled with zeros from its start on. Assumes nothing.
use Rattle.std.proofs.Common.{◌≡◌, ℕ, zero, suc, ◌+◌, ◌<◌, ◌≤◌, List, ◌∷◌, ◌++◌, length, get_or, drop, set, replicate, refl, ap, ◌∙◌, append-nil, add-one, arith, length-append, length-drop, drop_of_length-le, drop-cons}
use lib.ListN.{length-replicate}
use lib.Seq.{set_at}

module _ {A : Type 0} (z : A) where
  abbrev pub cleared : List A → ℕ → List A
  cleared l i = replicate i z ++ drop i l

  one_more : (i : ℕ) (ys : List A) → replicate i z ++ (z ∷ ys) ≡ replicate (suc i) z ++ ys
  one_more zero ys = refl
  one_more (suc i) ys = ap (λ (l : List A). z ∷ l) (one_more i ys)

  pub length-cleared : (l : List A) (i : ℕ) → i ≤ length l → length (cleared l i) ≡ length l
  length-cleared l i h = simp (length-append, length-replicate, length-drop) (omega arith)

  pub cleared-next : (l : List A) (i : ℕ) → i < length l → set (cleared l i) i z ≡ cleared l (i + 1)
  cleared-next l i h =
      rw (add-one i, drop-cons l i z h) (set_at (replicate i z) (get_or l i z) (drop (suc i) l) z i (length-replicate i z) ∙ one_more i (drop (suc i) l))

  pub cleared-all : (l : List A) (i : ℕ) → i ≤ length l → length l ≤ i → cleared l i ≡ replicate (length l) z
  cleared-all l i h k = rw (drop_of_length-le l {i = i} k, append-nil, same)
    where
      same : i ≡ length l
      same = omega arith
