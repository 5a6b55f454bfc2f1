-- Where a code lies among the bytes of its payload, and what of a wide one lies past them. Assumes nothing.
use Rattle.std.proofs.Common.{◌≡◌, ℕ, zero, suc, ◌+◌, ◌-◌, ◌*◌, ◌/◌, ◌%◌, ◌^◌, ◌<◌, ◌≤◌, min, Bool, true, false, ltb, List, length, get_or, sym, refl, ap, ◌∙◌, add-one, arith, ltb-false, ltb-true}
use native.Mathlib.Nat as N
use lib.Bits.{bit_or, or_zero_l, or_zero_r}
use lib.ListN.{get_or-eq_default}
use Rattle.num.specs.Bytes.{field}
use Rattle.num.proofs.Bytes.{window}
use Rattle.adpcm.specs.Codes.{overlaid, code_from}

-- past the last byte there are zeros
pub bits-past : (bs : List ℕ) → ((i : ℕ) → get_or bs i 0 < 256) → (k r w : ℕ) → r ≤ 7 → w ≤ 8 → length bs ≤ k → field bs (8 * k + r) w ≡ 0
bits-past bs h k r w l m p =
    window bs h k r w l m
    ∙ rw (get_or-eq_default bs 0 {n = k} p, get_or-eq_default bs 0 {n = k + 1} (omega arith))
    (ap (λ (n : ℕ). n % 2 ^ w) (N.zero-div (2 ^ r)) ∙ N.zero-mod (2 ^ w))

-- one byte more over the others
pub byte_more : (bs : List ℕ) (k r n : ℕ) → overlaid bs (8 * k + r) (n + 1) ≡ bit_or (overlaid bs (8 * k + r) n) (field bs (8 * (k + n) + r) 8)
unfolding overlaid
byte_more bs k r n = rw add-one (ap (λ (b : ℕ). bit_or (overlaid bs (8 * k + r) n) (field bs b 8)) (next k r n))
  where
    next : (k r n : ℕ) → 8 * k + r + 8 * n ≡ 8 * (k + n) + r
    next k r n = omega arith

-- bytes past the last one add nothing
module _ (bs : List ℕ) (h : (i : ℕ) → get_or bs i 0 < 256) (k r : ℕ) (l : r ≤ 7) where
  past : (d : ℕ) → overlaid bs (8 * k + r) (length bs + d) ≡ overlaid bs (8 * k + r) (length bs)
  past zero = ap (overlaid bs (8 * k + r)) (N.add-zero (length bs))
  past (suc d) =
      ap (overlaid bs (8 * k + r)) (one (length bs) d)
      ∙ byte_more bs k r (length bs + d)
      ∙ ap (bit_or (overlaid bs (8 * k + r) (length bs + d))) (bits-past bs h (k + (length bs + d)) r 8 l (omega arith) (omega arith))
      ∙ or_zero_r (overlaid bs (8 * k + r) (length bs + d))
      ∙ past d
    where
      one : (n d : ℕ) → n + suc d ≡ n + d + 1
      one n d = omega arith

  pub byte_past : (n : ℕ) → overlaid bs (8 * k + r) (min n (length bs)) ≡ overlaid bs (8 * k + r) n
  byte_past n = cut (ltb n (length bs)) refl
    where
      less : (n m : ℕ) → n < m → min n m ≡ n
      less n m q = omega arith

      all : (n m : ℕ) → m ≤ n → min n m ≡ m
      all n m q = omega arith

      more : (n m : ℕ) → m ≤ n → m + (n - m) ≡ n
      more n m q = omega arith

      cut : (b : Bool) → ltb n (length bs) ≡ b → overlaid bs (8 * k + r) (min n (length bs)) ≡ overlaid bs (8 * k + r) n
      cut true e = ap (overlaid bs (8 * k + r)) (less n (length bs) (ltb-true n (length bs) e))
      cut false e =
          let q = ltb-false n (length bs) e in
          ap (overlaid bs (8 * k + r)) (all n (length bs) q) ∙ sym (past (n - length bs)) ∙ ap (overlaid bs (8 * k + r)) (more n (length bs) q)

-- a code of any width, by the byte and bit at which it begins
pub code_is : (bs : List ℕ) → ((i : ℕ) → get_or bs i 0 < 256) → (at w : ℕ)
    → bit_or (overlaid bs (8 * (at / 8) + at % 8) (min (w / 8) (length bs))) (field bs (8 * (at / 8 + w / 8) + at % 8) (w % 8)) ≡ code_from bs at w
code_is bs h at w =
    ap (λ (n : ℕ). bit_or n (field bs (8 * (at / 8 + w / 8) + at % 8) (w % 8))) (byte_past bs h (at / 8) (at % 8) (omega arith) (w / 8) ∙ ap (λ (b : ℕ). overlaid bs b (w / 8)) (first at))
    ∙ ap (λ (b : ℕ). bit_or (overlaid bs at (w / 8)) (field bs b (w % 8))) (behind at (w / 8))
  where
    first : (n : ℕ) → 8 * (n / 8) + n % 8 ≡ n
    first n = omega arith

    behind : (n m : ℕ) → 8 * (n / 8 + m) + n % 8 ≡ n + 8 * m
    behind n m = omega arith

-- a code that is narrower than a byte is a bit field
pub narrow-code : (bs : List ℕ) (at w : ℕ) → w < 8 → code_from bs at w ≡ field bs at w
unfolding overlaid
narrow-code bs at w h =
    let none : w / 8 ≡ 0 = omega arith in
    let all : w % 8 ≡ w = omega arith in
    rw (none, all, or_zero_l) (ap (λ (b : ℕ). field bs b w) (N.add-zero at))
