-- A fifteenth by a product and a division by a power of two: 15 * 8,947,849 is 2^27 + 7. Assumes nothing.
use Rattle.std.proofs.Common.{◌≡◌, ℕ, suc, ◌*◌, ◌/◌, ◌≤◌, ℤ, pos, negsuc, ◌*ℤ◌, neg_ℤ, nat_abs, sym, ap, ◌∙◌, arith}
use native.Mathlib.Nat as N
use lib.Signed.{quot_z}
use Rattle.tone.proofs.Scaled.{scaled-neg}

fifteenth : (n : ℕ) → n ≤ 8355840 → n * 8947849 / 134217728 ≡ n / 15
fifteenth n h = omega arith

spread : (n w : ℕ) → n ≤ 32768 → w ≤ 255 → n * (w * 8947849) / 134217728 ≡ n * w / 15
spread n w h k = ap (λ (m : ℕ). m / 134217728) (sym (N.mul_assoc n w 8947849)) ∙ fifteenth (n * w) (N.mul-le-mul h k)

pub fifteenths : (z : ℤ) (w : ℕ) → nat_abs z ≤ 32768 → w ≤ 255 → quot_z (z *ℤ pos (w * 8947849)) (pos 134217728) ≡ quot_z (z *ℤ pos w) (pos 15)
fifteenths (pos n) w h k = ap pos (spread n w h k)
fifteenths (negsuc n) w h k =
    sym (scaled-neg (negsuc n) (w * 8947849) 134217728 (omega arith)) ∙ (ap (λ (m : ℕ). neg_ℤ (pos m)) (spread (suc n) w h k) ∙ scaled-neg (negsuc n) w 15 (omega arith))
