-- A side's sum, stem by stem. Assumes nothing.
use mathlib.Core.Path.{◌≡◌, refl, ap, ◌∙◌}
use mathlib.Core.List.{List}
use Prim.Native.Nat.{ℕ, ◌+◌, ◌*◌, ◌<◌, ◌≤◌}
use native.Mathlib.Numerals.{add-one}
use native.Mathlib.Omega.{arith}
use lib.IntN.{ℤ, pos, ◌+ℤ◌, nat_abs}
use lib.ListN.{get_or}
use mir.Syntax.{w16, w32}
use mir.Val.{to_z, of_z, SFits}
use Rattle.sizes.specs.Sizes.{num_channels}
use Rattle.num.proofs.Integers.{back}
use Rattle.num.proofs.Fit.{widen16-32, fit-abs, abs-fit, abs-add}
use Rattle.sides.specs.Sides.{side_sum}

module _ (stems : List ℤ) (from ch sum : ℕ) where
  abbrev x : ℤ
  x = get_or stems (from + 2 * ch) (pos 0)

  -- what the loop adds: the stem, widened
  abbrev wide : ℤ
  wide = to_z w32 (of_z w32 (to_z w16 (of_z w16 x)))

  module _ (fx : SFits w16 x) where
    plain : wide ≡ x
    plain = ap (λ (z : ℤ). to_z w32 (of_z w32 z)) (back w16 x fx) ∙ back w32 x (widen16-32 fx)

    module _ (h : ch < num_channels) (s : nat_abs (to_z w32 sum) ≤ 32768 * ch) where
      pub sum-small : nat_abs (to_z w32 sum +ℤ wide) ≤ 32768 * (ch + 1)
      sum-small = rw plain (omega (arith, s, abs-add (to_z w32 sum) x, abs-fit w16 fx))

      pub sum_fits : SFits w32 (to_z w32 sum +ℤ wide)
      sum_fits = fit-abs w32 _ 262144 (omega (arith, sum-small, h)) (omega arith)

      pub sum-next : to_z w32 sum ≡ side_sum ch stems from → to_z w32 (of_z w32 (to_z w32 sum +ℤ wide)) ≡ side_sum (ch + 1) stems from
      unfolding side_sum
      sum-next e = back w32 _ sum_fits ∙ rw (plain, e, add-one ch) refl

      pub next_small : nat_abs (to_z w32 (of_z w32 (to_z w32 sum +ℤ wide))) ≤ 32768 * (ch + 1)
      next_small = rw (back w32 _ sum_fits) sum-small

-- the sides of two cores, as one core's sum is handed to the other's
module _ (x y : ℤ) (fx : SFits w32 x) (fy : SFits w32 y) where
  pub both-fits : nat_abs x ≤ 262144 → nat_abs y ≤ 262144 → SFits w32 (to_z w32 (of_z w32 x) +ℤ to_z w32 (of_z w32 y))
  both-fits h k = rw (back w32 x fx, back w32 y fy) (fit-abs w32 _ 524288 (omega (arith, h, k, abs-add x y)) (omega arith))

  pub both_is : (u v r : ℤ) → x ≡ u → y ≡ v → r ≡ to_z w32 (of_z w32 x) +ℤ to_z w32 (of_z w32 y) → r ≡ u +ℤ v
  both_is u v r eu ev e = rw (back w32 x fx, back w32 y fy, eu, ev) at e
