-- Sets: how large they are, which bit stands for what, and that only what is asked below the width counts. Assumes nothing.
use mathlib.Core.Path.{◌≡◌, refl, sym, ap, ap₂, ◌∙◌}
use mathlib.Core.Bool.{Bool, true, false, cond}
use Prim.Native.Nat.{ℕ, zero, suc, ◌+◌, ◌-◌, ◌*◌, ◌/◌, ◌%◌, ◌^◌, ◌<◌, ◌≤◌}
use native.Mathlib.Omega.{arith}
use native.Mathlib.Numerals.{add-one, unary_clauses}
use native.Mathlib.Nat as N
use native.Mathlib.Decide.{dec_lt}
use lib.Pow.{pow-add, pow_mono, pow_pos}
use Rattle.endings.specs.Sets.{off, either, bit_of, set_of}

-- off stays off: two stretches of time, one after the other
pub off-twice : (x y z : Bool) → (x ≡ false → y ≡ false) → (y ≡ false → z ≡ false) → either (off x y) (off y z) ≡ off x z
off-twice true true z f g = refl
off-twice true false z f g = sym (ap (λ (b : Bool). cond b false true) (g refl))
off-twice false y z f g = ap (λ (b : Bool). off b z) (f refl)

pub off-none : (x : Bool) → off x x ≡ false
off-none true = refl
off-none false = refl

pub off-on : (was is : Bool) → is ≡ true → false ≡ off was is
off-on true is e = ap (λ (b : Bool). cond b false true) (sym e)
off-on false is e = refl

pub off-gone : (was is : Bool) → is ≡ false → was ≡ off was is
off-gone true is e = ap (λ (b : Bool). cond b false true) (sym e)
off-gone false is e = refl

-- ---- a bit that counts, and one that does not
pub bit_in : (b : Bool) (bit : ℕ) → b ≡ true → bit ≡ bit_of b * bit
bit_in b bit e = (let f : bit ≡ 1 * bit = omega arith in f) ∙ ap (λ (x : Bool). bit_of x * bit) (sym e)

pub bit-out : (b : Bool) (bit : ℕ) → b ≡ false → 0 ≡ bit_of b * bit
bit-out b bit e = (let f : 0 ≡ 0 * bit = omega arith in f) ∙ ap (λ (x : Bool). bit_of x * bit) (sym e)

-- ---- how large
pub with-bit : (set bit : ℕ) (b : Bool) → set < bit → set + bit_of b * bit < bit * 2
with-bit set bit true h = omega arith
with-bit set bit false h = omega arith

pub set_below : (w : ℕ) (f : ℕ → Bool) → set_of w f < 2 ^ w
unfolding set_of
set_below zero f = omega arith
set_below (suc w) f = simp unary_clauses (with-bit (set_of w f) (2 ^ w) (f w) (set_below w f))

pub power-most : (n : ℕ) → n ≤ 8 → 2 ^ n ≤ 256
power-most n h = pow_mono h

-- ---- one number more
pub bit-more : (n bit : ℕ) → bit ≡ 2 ^ n → bit * 2 ≡ 2 ^ (n + 1)
bit-more n bit e = simp unary_clauses (ap (λ (x : ℕ). x * 2) e)

pub bit-small : (n bit : ℕ) → n < 8 → bit ≡ 2 ^ n → bit ≤ 128
bit-small n bit h e = omega (arith, power-most (n + 1) (omega arith), bit-more n bit e)

pub set_more : (n set bit x : ℕ) (f : ℕ → Bool) → bit ≡ 2 ^ n → set ≡ set_of n f → x ≡ bit_of (f n) * bit → set + x ≡ set_of (n + 1) f
unfolding set_of
set_more n set bit x f e g h = ap₂ (λ (a b : ℕ). a + b) g (h ∙ ap (λ (b : ℕ). bit_of (f n) * b) e) ∙ ap (λ (m : ℕ). set_of m f) (sym (add-one n))

-- ---- only what is below the width counts
pub set_same : (w : ℕ) (f g : ℕ → Bool) → ((n : ℕ) → n < w → f n ≡ g n) → set_of w f ≡ set_of w g
unfolding set_of
set_same zero f g e = refl
set_same (suc w) f g e = ap₂ (λ (s : ℕ) (b : Bool). s + bit_of b * 2 ^ w) (set_same w f g (λ n h. e n (omega arith))) (e w (omega arith))

-- ---- bit n of the number says whether n is in the set
far : (x p : ℕ) (b : Bool) → (x + bit_of b * (p * 2)) % 2 ≡ x % 2
far x p true = omega arith
far x p false = omega arith

near : (x : ℕ) (b : Bool) → x ≡ 0 → (x + bit_of b) % 2 ≡ bit_of b
near x true e = omega arith
near x false e = omega arith

-- a larger power as a multiple of a smaller one
power-split : (n w : ℕ) (b : Bool) → n < w → bit_of b * 2 ^ w ≡ bit_of b * (2 ^ (w - n - 1) * 2) * 2 ^ n
power-split n w b h =
    ap (λ (x : ℕ). bit_of b * x) (ap (λ (m : ℕ). 2 ^ m) (apart n w h) ∙ pow-add 2 ((w - n - 1) + 1) n ∙ ap (λ (x : ℕ). x * 2 ^ n) (simp unary_clauses refl))
    ∙ sym (N.mul_assoc (bit_of b) (2 ^ (w - n - 1) * 2) (2 ^ n))
  where
    apart : (n w : ℕ) → n < w → w ≡ ((w - n - 1) + 1) + n
    apart n w h = omega arith

pub bit-of : (w : ℕ) (f : ℕ → Bool) (n : ℕ) → n < w → set_of w f / 2 ^ n % 2 ≡ bit_of (f n)
unfolding set_of
bit-of zero f n h = absurd (omega arith)
bit-of (suc w) f n h =
    elim (dec_lt n w) [
      | yes y ↦
          ap (λ (x : ℕ). (set_of w f + x) / 2 ^ n % 2) (power-split n w (f w) y)
          ∙ ap (λ (x : ℕ). x % 2) (N.add-mul-div_right (set_of w f) (bit_of (f w) * (2 ^ (w - n - 1) * 2)) (pow_pos n))
          ∙ far (set_of w f / 2 ^ n) (2 ^ (w - n - 1)) (f w) ∙ bit-of w f n y
      | no y ↦
          ap (λ (m : ℕ). (set_of w f + bit_of (f w) * 2 ^ w) / 2 ^ m % 2) (last n w h y)
          ∙ ap (λ (x : ℕ). x % 2) (N.add-mul-div_right (set_of w f) (bit_of (f w)) (pow_pos w))
          ∙ near (set_of w f / 2 ^ w) (f w) (N.div-eq_of_lt (set_below w f)) ∙ ap (λ (m : ℕ). bit_of (f m)) (sym (last n w h y))
    ]
  where
    last : (n w : ℕ) → n < suc w → (n < w → ⊥) → n ≡ w
    last n w h y = omega arith
