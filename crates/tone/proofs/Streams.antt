-- A stream's value is 24 bits wide: what it gives fits 16 bits, and in range it counts as it is. Assumes nothing.
use Rattle.std.proofs.Common.{◌≡◌, ℕ, ◌*◌, ◌/◌, ◌^◌, ◌<◌, ◌≤◌, ℤ, pos, negsuc, ◌*ℤ◌, nat_abs, arith, w16, SFits}
use native.Mathlib.Nat as N
use lib.Signed.{mag, quot_z, shr_z}
use Rattle.num.specs.Integers.{up, down}
use Rattle.num.proofs.Integers.{fit, up-mag, one-zero, abs_is, le-lt_z, up-quot, down-quot, up-mul, down-mul}
use Rattle.num.proofs.Fit.{clamp-width}
use Rattle.tone.specs.Mix.{stream_value}

pub value-abs : (q8 : ℤ) → nat_abs (stream_value q8) ≤ 8388608
value-abs q8 =
    let h = clamp-width q8 8388607 in
    let o = one-zero (stream_value q8) in
    omega (arith, abs_is (stream_value q8))

-- in range the value is what it was
pub value_same : (q8 : ℤ) → up q8 ≤ 8388607 → down q8 ≤ 8388608 → stream_value q8 ≡ q8
value_same q8 h l = let o = one-zero q8 in rw (le-lt_z q8 (negsuc 8388607) (omega arith), le-lt_z (pos 8388607) q8 (omega arith))

shr-fits : (z : ℤ) → mag z < 8388608 → SFits w16 (shr_z z (2 ^ 8))
shr-fits (pos n) h = fit w16 _ (omega arith) (omega arith)
shr-fits (negsuc n) h = fit w16 _ (omega arith) (omega arith)

pub last_fits : (q8 : ℤ) → SFits w16 (shr_z (stream_value q8) (2 ^ 8))
last_fits q8 =
    let h = clamp-width q8 8388607 in
    shr-fits (stream_value q8) (up-mag (stream_value q8) 8388608 (omega arith) (omega arith))

part : (a b n : ℕ) → a ≤ b → n ≤ 255 → a * n / 65280 ≤ b * 255 / 65280
part a b n h l = omega (arith, N.mul-le-mul h l)

pub volume-fits : (q8 : ℤ) (n : ℕ) → n ≤ 255 → SFits w16 (quot_z (stream_value q8 *ℤ pos n) (pos 65280))
volume-fits q8 n l =
    let h = clamp-width q8 8388607 in
    fit w16 _ (rw (up-quot (stream_value q8 *ℤ pos n) 65280, up-mul (stream_value q8) n) (omega (arith, part (up (stream_value q8)) 8388607 n h.0 l)))
    (rw (down-quot (stream_value q8 *ℤ pos n) 65280, down-mul (stream_value q8) n) (omega (arith, part (down (stream_value q8)) 8388608 n h.1 l)))
