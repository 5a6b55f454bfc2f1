-- A note and semitones for each sum. Assumes nothing.
use mathlib.Core.Path.{◌≡◌}
use Prim.Native.Nat.{ℕ, ◌+◌, ◌<◌}
use native.Mathlib.Omega.{arith}
use lib.IntN.{ℤ, pos}
use mir.Syntax.{w8, w64}
use mir.Val.{SFits}
use Rattle.num.specs.Integers.{up, down}
use Rattle.num.proofs.Integers.{z-add, z-sub, one-zero, abs_is, fit}
use Rattle.num.proofs.Fit.{fit-abs, abs-sub}
use Rattle.notes.specs.Pitches.{below_zero, sums, lifted_sum, sum_at}
use Rattle.s3w2_notes.specs.Lines.{sum_of}

pub sum_is : (note : ℕ) (semitones : ℤ) (k : ℕ) → note + 128 + up semitones ≡ k + down semitones → sum_at note semitones ≡ k
unfolding sum_at
sum_is note semitones k h =
    let z = lifted_sum note semitones in
    omega (arith, abs_is z, one-zero z, z-add (pos (note + below_zero)) semitones)

module _ (k : ℕ) (h : k < 128) where
  pub below-fits : SFits w8 (sum_of k)
  below-fits = let z = sum_of k in fit w8 z (omega (arith, z-sub (pos k) (pos 128), one-zero z)) (omega (arith, z-sub (pos k) (pos 128), one-zero z))

  pub below-sum : sum_at 0 (sum_of k) ≡ k
  below-sum = sum_is 0 (sum_of k) k (omega (arith, z-sub (pos k) (pos 128)))

pub sum_fits : (k : ℕ) → k < sums → SFits w64 (sum_of k)
sum_fits k h = fit-abs w64 (sum_of k) 638 (omega (arith, abs-sub (pos k) (pos 128))) (omega arith)
