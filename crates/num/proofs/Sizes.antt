-- The size of a number of any width: what a test against 0 says of it, and how -1 - z gives it. Assumes nothing.
use mathlib.Core.Path.{◌≡◌}
use mathlib.Core.Bool.{true, false}
use Prim.Native.Nat.{ℕ, ◌-◌, ◌≤◌, ◌<◌, ◌^◌}
use native.Mathlib.Nat.{lt_of_lt_of_le}
use native.Mathlib.Omega.{arith}
use lib.IntN.{ℤ, pos, negsuc, nat_abs, ◌-ℤ◌}
use lib.Signed.{lt_z}
use mir.Syntax.{Width}
use mir.Val.{SFits, hbits, to_z, of_z}
use Rattle.num.specs.Integers.{down}
use Rattle.num.proofs.Integers.{fit, fit-up, fit-down, z-eq, z-sub, one-zero, back, abs_is, lt_z-true, lt_z-false}

-- -1 - z, of a z below 0, and of any other
pub below-zero : (z : ℤ) → 0 < down z → negsuc 0 -ℤ z ≡ pos (nat_abs z - 1)
below-zero (pos n) h = absurd (omega arith)
below-zero (negsuc n) h = z-eq _ _ (omega (arith, z-sub (negsuc 0) (negsuc n)))

pub minus-suc : (n : ℕ) → negsuc 0 -ℤ pos n ≡ negsuc n
minus-suc n = z-eq _ _ (omega (arith, z-sub (negsuc 0) (pos n)))

module _ (w : Width) (z : ℤ) (f : SFits w z) where
  pub is_below : lt_z (to_z w (of_z w z)) (pos 0) ≡ true → 0 < down z
  is_below e = omega (arith, lt_z-true z (pos 0) (rw (back w z f) at e))

  pub not-below : lt_z (to_z w (of_z w z)) (pos 0) ≡ false → down z ≡ 0
  not-below e = omega (arith, lt_z-false z (pos 0) (rw (back w z f) at e), one-zero z)

  pub size-most : nat_abs z ≤ 2 ^ hbits w
  size-most = omega (arith, abs_is z, one-zero z, fit-up f, fit-down f)

  pub size-some : 0 < down z → 0 < nat_abs z
  size-some h = omega (arith, abs_is z)

  pub less-fits : 0 < down z → SFits w (pos (nat_abs z - 1))
  less-fits h = fit w _ (lt_of_lt_of_le {m = nat_abs z} (omega (arith, size-some h)) size-most) (omega arith)

  -- as the machine has it
  pub less-is : 0 < down z → to_z w (of_z w (negsuc 0 -ℤ to_z w (of_z w z))) ≡ pos (nat_abs z - 1)
  less-is h = rw (back w z f, below-zero z h) (back w _ (less-fits h))
