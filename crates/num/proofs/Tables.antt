-- A rule of a table, proved at every index by one test that antt computes over its entries. Assumes nothing.
use mathlib.Core.Bool.{Bool, true, false, cond}
use mathlib.Core.List.{List, [], ◌∷◌}
use Prim.Native.Nat.{ℕ, zero, suc}
use lib.Dec.{T}
use lib.ListN.{get_or}

abbrev pub all_of : {A : Type 0} → (A → Bool) → List A → Bool
all_of f [] = true
all_of f (x ∷ xs) = cond (f x) (all_of f xs) false

-- the test holds of what stands at any index, where it holds of what stands past the end
pub at_all : {A : Type 0} (f : A → Bool) (d : A) → T (f d) → (xs : List A) → T (all_of f xs) → (i : ℕ) → T (f (get_or xs i d))
at_all f d h [] t i = h
at_all f d h (x ∷ xs) t zero = first (f x) t
  where
    first : (b : Bool) → T (cond b (all_of f xs) false) → T b
    first true t = tt
    first false t = t
at_all f d h (x ∷ xs) t (suc i) = at_all f d h xs (rest (f x) t) i
  where
    rest : (b : Bool) → T (cond b (all_of f xs) false) → T (all_of f xs)
    rest true t = t
    rest false t = absurd t
