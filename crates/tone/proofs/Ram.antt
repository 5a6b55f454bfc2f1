-- The allowed lengths of the RAM: a count of ones of 1 between the bounds is one of the 17 powers of two. Assumes nothing.
use Rattle.std.proofs.Common.{◌≡◌, ℕ, zero, suc, ◌+◌, ◌-◌, ◌*◌, ◌/◌, ◌%◌, ◌^◌, ◌<◌, ◌≤◌, Bool, true, false, cond, eqb, sym, refl, ap, ◌∙◌, subst, arith, pow_pos, pow-add, eq-eqb, ne_eqb, eqb-true}
use native.Mathlib.Nat as N
use native.Mathlib.Decide.{dec_le}
use lib.Count.{ones, ones_step}
use lib.Pow.{pow-lt}
use Rattle.num.specs.Bits.{Power}
use Rattle.num.proofs.Bits.{power-of}
use Rattle.tone.specs.Pcm.{power_from, is_ram_length}

-- below the first, and above the last
low : (k p n : ℕ) → n < p → power_from k p n ≡ false
low zero p n h = refl
low (suc k) p n h = rw (ne_eqb n p (λ e. absurd (omega arith))) (low k (p * 2) n (omega arith))

high : (k p n : ℕ) → p * 2 ^ k < n * 2 → power_from k p n ≡ false
high zero p n h = refl
high (suc k) p n h =
    rw (ne_eqb n p (λ e. absurd (omega (arith, most, doubled)))) (high k (p * 2) n (omega (arith, doubled)))
  where
    doubled : p * 2 ^ suc k ≡ p * 2 * 2 ^ k
    doubled = ap (λ (x : ℕ). p * x) (N.pow-suc 2 k ∙ N.mul_comm (2 ^ k) 2) ∙ sym (N.mul_assoc p 2 (2 ^ k))

    most : p * 2 ≤ p * 2 * 2 ^ k
    most = N.le_trans (omega arith) (N.mul-le-mul_left (p * 2) (pow_pos k))

not-both : {b : Bool} → b ≡ true → b ≡ false → ⊥
not-both e f = absurd (N.lt_irrefl 0 (subst (λ (b : Bool). 0 < cond b 1 0) (sym e ∙ f) (omega arith)))

-- what is found has one bit set
pub found-ones : (k p n : ℕ) → ones p ≡ 1 → power_from k p n ≡ true → ones n ≡ 1
found-ones zero p n o e = absurd (not-both e refl)
found-ones (suc k) p n o e = at (eqb n p) refl (λ q. found-ones k (p * 2) n twice q) e
  where
    twice : ones (p * 2) ≡ 1
    twice = ones_step (p * 2) ∙ rw (half, even) (omega (arith, o))
      where
        half : p * 2 / 2 ≡ p
        half = omega arith

        even : p * 2 % 2 ≡ 0
        even = omega arith

    at : (t : Bool) → eqb n p ≡ t → (power_from k (p * 2) n ≡ true → ones n ≡ 1) → cond t true (power_from k (p * 2) n) ≡ true → ones n ≡ 1
    at true q f e = ap ones (eqb-true n p q) ∙ o
    at false q f e = f e

-- each of the powers is found
found : (k p j n : ℕ) → j < k → n ≡ p * 2 ^ j → power_from k p n ≡ true
found zero p j n h e = absurd (omega arith)
found (suc k) p zero n h e = rw (eq-eqb n p (e ∙ omega arith))
found (suc k) p (suc j) n h e =
    cond-true (eqb n p) (power_from k (p * 2) n) (found k (p * 2) j n (omega arith) (e ∙ ap (λ (x : ℕ). p * x) (N.pow-suc 2 j ∙ N.mul_comm (2 ^ j) 2) ∙ sym (N.mul_assoc p 2 (2 ^ j))))
  where
    cond-true : (t b : Bool) → b ≡ true → cond t true b ≡ true
    cond-true true b q = refl
    cond-true false b q = q

-- between the bounds a power of two is one of the 17
power-found : (n : ℕ) → 256 ≤ n → n ≤ 16777216 → Power n → power_from 17 256 n ≡ true
power-found n h l p = found 17 256 (p.log - 8) n (omega (arith, above, below)) (p.is ∙ split)
  where
    above : 8 ≤ p.log
    above = elim (dec_le 8 p.log) [ yes q ↦ q | no q ↦ absurd (omega (arith, p.is, pow-lt (N.lt_of_not-le q))) ]

    below : p.log ≤ 24
    below = elim (dec_le p.log 24) [ yes q ↦ q | no q ↦ absurd (omega (arith, p.is, pow-lt (N.lt_of_not-le q))) ]

    split : 2 ^ p.log ≡ 256 * 2 ^ (p.log - 8)
    split = ap (λ (x : ℕ). 2 ^ x) (parts p.log above) ∙ pow-add 2 8 (p.log - 8)
      where
        parts : (k : ℕ) → 8 ≤ k → k ≡ 8 + (k - 8)
        parts k h = omega arith

pub too-low : (n : ℕ) → n < 256 → is_ram_length n ≡ false
unfolding is_ram_length
too-low n h = low 17 256 n h

pub too-high : (n : ℕ) → 16777216 < n → is_ram_length n ≡ false
unfolding is_ram_length
too-high n h = high 17 256 n (omega arith)

one_bit : ones 256 ≡ 1
unfolding ones
one_bit = refl

pub counted : (n : ℕ) → 256 ≤ n → n ≤ 16777216 → eqb (ones n) 1 ≡ is_ram_length n
unfolding is_ram_length
counted n h l = at (power_from 17 256 n) refl
  where
    at : (t : Bool) → power_from 17 256 n ≡ t → eqb (ones n) 1 ≡ t
    at true e = eq-eqb (ones n) 1 (found-ones 17 256 n one_bit e)
    at false e = ne_eqb (ones n) 1 (λ o. not-both (power-found n h l (power-of n o)) e)

-- what an allowed length is
pub ram-power : (n : ℕ) → is_ram_length n ≡ true → Power n
unfolding is_ram_length
ram-power n e = power-of n (found-ones 17 256 n one_bit e)

pub ram-range : (n : ℕ) → is_ram_length n ≡ true → (256 ≤ n) × (n ≤ 16777216)
ram-range n e = (
  elim (dec_le 256 n) [ yes h ↦ h | no h ↦ absurd (not-both e (too-low n (N.lt_of_not-le h))) ],
  elim (dec_le n 16777216) [ yes h ↦ h | no h ↦ absurd (not-both e (too-high n (N.lt_of_not-le h))) ],
)
