-- One step more, and steps in two parts. Assumes nothing.
use mathlib.Core.Path.{◌≡◌, ap, ◌∙◌}
use Prim.Native.Nat.{ℕ, zero, suc, ◌+◌}
use native.Mathlib.Nat as N
use native.Mathlib.Numerals.{add-one}
use Rattle.ticks.specs.Again.{again}

module _ {A : Type 0} (f : A → A) (x : A) where
  pub again-more : (n : ℕ) → again (n + 1) f x ≡ f (again n f x)
  unfolding again
  again-more n = rw add-one

  pub again-split : (m n : ℕ) → again (m + n) f x ≡ again m f (again n f x)
  unfolding again
  again-split zero n = ap (λ (k : ℕ). again k f x) (N.zero-add n)
  again-split (suc m) n = ap (λ (k : ℕ). again k f x) (N.suc-add m n) ∙ ap f (again-split m n)
