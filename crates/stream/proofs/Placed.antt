-- Samples set at a place of a list: those, and the others. Assumes nothing.
use Rattle.std.proofs.Common.{◌≡◌, ℕ, ◌+◌, ◌-◌, ◌<◌, ◌≤◌, ◌⊎◌, List, ◌++◌, length, get_or, take, drop, sym, ap, ◌∙◌, inl, inr, append_assoc, arith, length-take, get_or-drop, get_or-take, get_or-append-add}
use lib.ListN.{get_or-append}
use lib.Seq.{sets, sets-eq}

module _ {A : Type 0} (z : A) (l : List A) (a : ℕ) (xs : List A) (room : a + length xs ≤ length l) where
  parts : sets l a xs ≡ take a l ++ (xs ++ drop (a + length xs) l)
  parts = sets-eq xs l a room ∙ append_assoc (take a l) xs (drop (a + length xs) l)

  head : length (take a l) ≡ a
  head = length-take a l ∙ omega arith

  pub placed-in : (i : ℕ) → i < length xs → get_or (sets l a xs) (a + i) z ≡ get_or xs i z
  placed-in i h =
      ap (λ (y : List A). get_or y (a + i) z) parts
      ∙ ap (λ (n : ℕ). get_or (take a l ++ (xs ++ drop (a + length xs) l)) (n + i) z) (sym head)
      ∙ get_or-append-add (take a l) (xs ++ drop (a + length xs) l) i z
      ∙ get_or-append xs (drop (a + length xs) l) z i h

  pub placed-out : (j : ℕ) → (j < a) ⊎ (a + length xs ≤ j) → get_or (sets l a xs) j z ≡ get_or l j z
  placed-out j (inl h) =
      ap (λ (y : List A). get_or y j z) parts
      ∙ get_or-append (take a l) (xs ++ drop (a + length xs) l) z j (omega (arith, head)) ∙ get_or-take a l j z h
  placed-out j (inr h) =
      let r = j - (a + length xs) in
      let e : j ≡ length (take a l) + (length xs + r) = omega (arith, head) in
      let g : a + length xs + r ≡ j = omega arith in
      ap (λ (y : List A). get_or y j z) parts
      ∙ ap (λ (n : ℕ). get_or (take a l ++ (xs ++ drop (a + length xs) l)) n z) e
      ∙ get_or-append-add (take a l) (xs ++ drop (a + length xs) l) (length xs + r) z
      ∙ get_or-append-add xs (drop (a + length xs) l) r z
      ∙ get_or-drop (a + length xs) l r z
      ∙ ap (λ (n : ℕ). get_or l n z) g
