-- The rule leaves one number for each sum. Assumes nothing.
use mathlib.Core.Path.{◌≡◌}
use Prim.Native.Nat.{ℕ, ◌+◌, ◌-◌, ◌*◌, ◌^◌, ◌≤◌}
use native.Mathlib.Nat.{mul-le-mul_right, pow-le-pow_left}
use native.Mathlib.Omega.{arith}
use native.Mathlib.Decide.{dec_le}
use Rattle.notes.specs.Pitches.{border_power, NearestPitch}

border-mono : (m n : ℕ) → m ≤ n → border_power m ≤ border_power n
unfolding border_power
border-mono m n h = mul-le-mul_right (2 ^ 197) (pow-le-pow_left h 12)

at_most : (at a b : ℕ) → NearestPitch at a → NearestPitch at b → a ≤ b
at_most at a b x y =
    elim (dec_le a b) [
      | yes h ↦ h
      | no h ↦ absurd (omega (arith, x.low, y.high (omega (arith, x.cut)), border-mono (2 * b + 1) (2 * a - 1) (omega arith)))
    ]

pub only : (at a b : ℕ) → NearestPitch at a → NearestPitch at b → a ≡ b
only at a b x y = omega (arith, at_most at a b x y, at_most at b a y x)
