-- A division of the magnitude, with the sign put back, goes toward zero; three divisions are one. Assumes nothing.
use Rattle.std.proofs.Common.{◌≡◌, ℕ, zero, suc, ◌*◌, ◌/◌, ◌<◌, ℤ, pos, negsuc, ◌*ℤ◌, neg_ℤ, nat_abs, refl, ap, ◌∙◌, arith}
use native.Mathlib.Nat as N
use lib.Signed.{quot_z}
use Rattle.num.specs.Integers.{up, down}
use Rattle.num.proofs.Integers.{z-eq, up-quot, down-quot}
use Rattle.tone.specs.Mix.{master_gain}

pub scaled-neg : (z : ℤ) (f d : ℕ) → 0 < down z → neg_ℤ (pos (nat_abs z * f / d)) ≡ quot_z (z *ℤ pos f) (pos d)
scaled-neg (pos n) f d h = absurd (omega arith)
scaled-neg (negsuc n) f d h = at (suc n * f)
  where
    at : (m : ℕ) → neg_ℤ (pos (m / d)) ≡ quot_z (neg_ℤ (pos m)) (pos d)
    at zero = rw N.zero-div
    at (suc m) = refl

-- the master gain after a division
pub gain-once : (z : ℤ) (a : ℕ) → master_gain (quot_z z (pos a)) ≡ quot_z z (pos (a * 2 * 4))
unfolding master_gain
gain-once z a = z-eq _ _
    (rw (up-quot (quot_z (quot_z z (pos a)) (pos 2)) 4, down-quot (quot_z (quot_z z (pos a)) (pos 2)) 4, up-quot (quot_z z (pos a)) 2, down-quot (quot_z z (pos a)) 2, up-quot z a, down-quot z a, up-quot z (a * 2 * 4), down-quot z (a * 2 * 4), once (up z), once (down z)))
  where
    once : (n : ℕ) → n / a / 2 / 4 ≡ n / (a * 2 * 4)
    once n = ap (λ (x : ℕ). x / 4) (N.div-div-eq-div-mul n a 2) ∙ N.div-div-eq-div-mul n (a * 2) 4
