-- The target's channel is the carrier's number and the offset, modulo 8. Assumes nothing.
use Rattle.std.proofs.Common.{◌≡◌, ℕ, ◌+◌, ◌%◌, ◌<◌, Bool, true, false, cond, ltb, ◌⊎◌, ℤ, pos, ◌+ℤ◌, ◌-ℤ◌, refl, inl, inr, ⊎_elim, arith, ltb-false}
use lib.Signed.{lt_z, le_z}
use Rattle.num.specs.Integers.{up, down}
use Rattle.num.proofs.Choice.{cond-by}
use Rattle.num.proofs.Integers.{z-add, z-sub, one-zero, lt_z-true, lt_z-false, le_z-true}
use Rattle.tone.specs.Targets.{relative, among_eight}

module _ (c r : ℕ) (h : r < 8) where
  -- z is c + r, or 8 below it
  abbrev Near : ℤ → Type 0
  Near z = (up z ≡ down z + (c + r)) ⊎ (up z + 8 ≡ down z + (c + r))

  wrapped-is : (z : ℤ) → Near z → up (among_eight z) % 8 ≡ (c + r) % 8
  wrapped-is z near =
      let o = one-zero z in
      cond-by (λ (w : ℤ). up w % 8 ≡ (c + r) % 8) (lt_z z (pos 0)) (z +ℤ pos 8) (cond (le_z (pos 8) z) (z -ℤ pos 8) z)
      (λ n. let a = lt_z-true z (pos 0) n in let s = z-add z (pos 8) in let p = one-zero (z +ℤ pos 8) in ⊎_elim (λ k. omega arith) (λ k. omega arith) near)
      (λ n. cond-by (λ (w : ℤ). up w % 8 ≡ (c + r) % 8) (le_z (pos 8) z) (z -ℤ pos 8) z
      (λ m. let a = lt_z-false z (pos 0) n in let b = le_z-true (pos 8) z m in let s = z-sub z (pos 8) in let p = one-zero (z -ℤ pos 8) in ⊎_elim (λ k. omega arith) (λ k. omega arith) near)
      (λ m. let a = lt_z-false z (pos 0) n in ⊎_elim (λ k. omega arith) (λ k. omega arith) near))

  pub absolute-is : up (among_eight (pos c +ℤ relative r)) % 8 ≡ (c + r) % 8
  absolute-is = at (ltb r 4) refl
    where
      at : (t : Bool) → ltb r 4 ≡ t → up (among_eight (pos c +ℤ relative r)) % 8 ≡ (c + r) % 8
      at true e = rw e (wrapped-is (pos c +ℤ pos r) (inl (omega arith)))
      at false e =
          let b = ltb-false r 4 e in
          let s = z-sub (pos r) (pos 8) in
          let a = z-add (pos c) (pos r -ℤ pos 8) in
          let o = one-zero (pos r -ℤ pos 8) in
          rw e (wrapped-is (pos c +ℤ (pos r -ℤ pos 8)) (inr (omega arith)))
