-- Note and semitones: their sum lies in -128 to 382. Assumes nothing.
use mathlib.Core.Path.{◌≡◌}
use Prim.Native.Nat.{ℕ, ◌+◌, ◌<◌}
use native.Mathlib.Omega.{arith}
use lib.IntN.{ℤ, pos}
use mir.Syntax.{w8, w32}
use mir.Val.{SFits}
use Rattle.num.proofs.Integers.{z-add, z-eq, one-zero, abs_is, fit-up, fit-down}
use Rattle.num.proofs.Fit.{fit-abs}
use Rattle.num.specs.Integers.{down}
use Rattle.notes.specs.Pitches.{below_zero, sums, lifted_sum, sum_at}

module _ (note : ℕ) (semitones : ℤ) (n : note < 256) (s : SFits w8 semitones) where
  pub not_negative : down (lifted_sum note semitones) ≡ 0
  not_negative = omega (arith, z-add (pos (note + below_zero)) semitones, one-zero (lifted_sum note semitones), fit-down s)

  -- so the place stands for the sum itself
  pub place-is-sum : pos (sum_at note semitones) ≡ lifted_sum note semitones
  unfolding sum_at
  place-is-sum = z-eq (pos (sum_at note semitones)) (lifted_sum note semitones) (omega (arith, abs_is (lifted_sum note semitones), not_negative))

  pub below-sums : sum_at note semitones < sums
  unfolding sum_at
  below-sums = omega (arith, z-add (pos (note + below_zero)) semitones, one-zero (lifted_sum note semitones), abs_is (lifted_sum note semitones), fit-up s, fit-down s)

  pub lifted-fits : SFits w32 (lifted_sum note semitones)
  unfolding sum_at
  lifted-fits = fit-abs w32 (lifted_sum note semitones) 510 (omega (arith, below-sums)) (omega arith)
