-- A number that fits a sample, and one that does not. Assumes nothing.
use Rattle.std.proofs.Common.{◌≡◌, ℤ, pos, negsuc, Bool, true, false, cond, ap, ◌∙◌, arith, w16, SFits, Option, Some, None, Result, Ok, Err}
use Rattle.std.specs.Result.{OkIff, result_ok}
use lib.Signed.{lt_z}
use Rattle.num.proofs.Integers.{fit, fit-up, fit-down, one-zero, lt_z-true, lt_z-false}

pub fitting : {E : Type 0} (o : Option ℤ) (r : Result ℤ E) (z : ℤ) (b d : Bool) → o ≡ result_ok r → OkIff r (SFits w16 z) z → lt_z z (negsuc 32767) ≡ b → lt_z (pos 32767) z ≡ d → o ≡ cond b None (cond d None (Some z))
fitting o (Ok x) z true d e h p q = absurd (omega (arith, lt_z-true z (negsuc 32767) p, fit-down h.0))
fitting o (Ok x) z false true e h p q = absurd (omega (arith, lt_z-true (pos 32767) z q, fit-up h.0))
fitting o (Ok x) z false false e h p q = e ∙ ap Some h.1
fitting o (Err u) z true d e h p q = e
fitting o (Err u) z false true e h p q = e
fitting o (Err u) z false false e h p q =
    absurd (h (fit w16 z (omega (arith, lt_z-false (pos 32767) z q, one-zero z)) (omega (arith, lt_z-false z (negsuc 32767) p, one-zero z))))
