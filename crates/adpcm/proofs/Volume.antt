-- A volume of at most 255 keeps a sample within 16 bits. Assumes nothing.
use Rattle.std.proofs.Common.{ℕ, ◌+◌, ◌*◌, ◌/◌, ◌≤◌, ℤ, pos, neg_ℤ, nat_abs, mul-le-mul_left, arith, w16, SFits}
use lib.Signed.{lt_z}
use Rattle.num.proofs.Choice.{cond-by}
use Rattle.num.proofs.Integers.{fit, fit-up, fit-down, abs_is, one-zero, lt_z-false, up-minus, down-minus}
use Rattle.adpcm.specs.Codes.{applied_volume}

pub volume-fits : (p : ℤ) (v : ℕ) → SFits w16 p → v ≤ 255 → SFits w16 (applied_volume p v)
volume-fits p v f h =
    let m : nat_abs p * v ≤ nat_abs p * 255 = mul-le-mul_left (nat_abs p) h in
    let n = (nat_abs p * v + 127) / 255 in
    let u = fit-up f in
    let d = fit-down f in
    cond-by (λ (z : ℤ). SFits w16 z) (lt_z p (pos 0)) (neg_ℤ (pos n)) (pos n)
    (λ e. fit w16 _ (omega (arith, up-minus n)) (omega (arith, down-minus n, abs_is p, one-zero p)))
    (λ e. fit w16 _ (omega (arith, abs_is p, lt_z-false p (pos 0) e, one-zero p)) (omega arith))
