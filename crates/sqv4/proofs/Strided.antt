-- Samples at their places: one after the other, one part after another, and two channels by turns. Assumes nothing.
use mathlib.Core.Path.{◌≡◌, refl, ap, ◌∙◌}
use mathlib.Core.List.{List, [], ◌∷◌, ◌++◌}
use Prim.Native.Nat.{ℕ, suc, ◌+◌, ◌*◌, ◌<◌}
use native.Mathlib.Nat as N
use native.Mathlib.Numerals.{add-one}
use native.Mathlib.Omega.{arith}
use lib.ListN.{length, set, length-set}
use lib.Seq.{sets, set_comm}
use lib.IntN.{ℤ}
use Rattle.sqv4.specs.Decoding.{strided}
use Rattle.sqv4.specs.Whole.{interleaved}

pub length-strided : (xs out : List ℤ) (at step : ℕ) → length (strided out at step xs) ≡ length out
unfolding strided
length-strided [] out at step = refl
length-strided (x ∷ xs) out at step = length-strided xs (set out at x) (at + step) step ∙ length-set out at x

-- a step of 1 is one after the other
pub strided-sets : (out : List ℤ) (at : ℕ) (xs : List ℤ) → strided out at 1 xs ≡ sets out at xs
unfolding strided
strided-sets out at [] = refl
strided-sets out at (x ∷ xs) = rw (add-one at) (strided-sets (set out at x) (suc at) xs)

-- a second part follows the first
pub strided-append : (xs ys out : List ℤ) (at step : ℕ) → strided out at step (xs ++ ys) ≡ strided (strided out at step xs) (at + length xs * step) step ys
unfolding strided
strided-append [] ys out at step = ap (λ (n : ℕ). strided out n step ys) (none at step)
  where
    none : (at step : ℕ) → at ≡ at + 0 * step
    none at step = omega arith
strided-append (x ∷ xs) ys out at step =
    strided-append xs ys (set out at x) (at + step) step
    ∙ ap (λ (n : ℕ). strided (strided (set out at x) (at + step) step xs) n step ys) (more at step (length xs))
  where
    more : (at step n : ℕ) → at + step + n * step ≡ at + suc n * step
    more at step n = omega (arith, N.suc-mul n step)

-- a place below those of a run may be filled before it
before : (xs out : List ℤ) (i at step : ℕ) (y : ℤ) → i < at → set (strided out at step xs) i y ≡ strided (set out i y) at step xs
unfolding strided
before [] out i at step y h = refl
before (x ∷ xs) out i at step y h =
    before xs (set out at x) i (at + step) step y (omega arith)
    ∙ ap (λ (l : List ℤ). strided l (at + step) step xs) (set_comm out at i x y (below h))
  where
    below : {i at : ℕ} → i < at → at ≡ i → ⊥
    below h e = omega arith

-- two channels by turns
pub strided-two : (xs ys : List ℤ) → length xs ≡ length ys → (out : List ℤ) (at : ℕ) → strided (strided out at 2 xs) (at + 1) 2 ys ≡ sets out at (interleaved xs ys)
unfolding strided interleaved
strided-two [] [] e out at = refl
strided-two [] (y ∷ ys) e out at = absurd (omega arith)
strided-two (x ∷ xs) [] e out at = absurd (omega arith)
strided-two (x ∷ xs) (y ∷ ys) e out at =
    ap (λ (l : List ℤ). strided l (at + 1 + 2) 2 ys) (before xs (set out at x) (at + 1) (at + 2) 2 y (omega arith))
    ∙ ap (λ (n : ℕ). strided (strided (set (set out at x) (at + 1) y) (at + 2) 2 xs) n 2 ys) (three at)
    ∙ strided-two xs ys (omega arith) (set (set out at x) (at + 1) y) (at + 2)
    ∙ rw (add-one at) (ap (λ (n : ℕ). sets (set (set out at x) (suc at) y) n (interleaved xs ys)) (two at))
  where
    three : (n : ℕ) → n + 1 + 2 ≡ n + 2 + 1
    three n = omega arith

    two : (n : ℕ) → n + 2 ≡ suc (suc n)
    two n = omega arith
