-- Setting a bit or a field of bits, counting the bits that two numbers share, powers of two as masks. Assumes nothing.
use mathlib.Core.Path.{◌≡◌, refl, sym, ap, ap₂, ◌∙◌, subst}
use Prim.Native.Nat.{ℕ, zero, suc, ◌+◌, ◌*◌, ◌-◌, ◌≤◌, ◌<◌, ◌/◌, ◌%◌, ◌^◌, min, max}
use native.Mathlib.Nat as N
use native.Mathlib.Omega.{arith}
use lib.Bits.{bit_and, bit_or, and_step, and_zero_r, and_mask, and_block, and_high, or_zero_r, or_step, or_block, or_shifted}
use lib.Count.{ones, ones_step}
use lib.Pow.{split, pow_pos, pow-add, ones_split, ones_lt, high_ones, shl_exact, shr-shr, shr_lt, shr_mod, mod-mod-pow}
use lib.Pow as P
use Rattle.num.specs.Bits.{with_bit, field_of, with_field, selected, Power}

or-digit : (m b : ℕ) → b < 2 → bit_or m b ≡ m / 2 * 2 + max (m % 2) b
or-digit m zero h = or_zero_r m ∙ omega arith
or-digit m (suc zero) h = or_step m 1 ∙ ap (λ (x : ℕ). x * 2 + max (m % 2) 1) (or_zero_r (m / 2))
or-digit m (suc (suc b)) h = absurd (bad b h)
  where
    bad : (b : ℕ) → suc (suc b) < 2 → ⊥
    bad b h = omega arith

pub or-bit : (k b n : ℕ) → b < 2 → bit_or n (b * 2 ^ k) ≡ with_bit k b n
or-bit k b n h =
    ap₂ bit_or (sym (split n k)) (sym (N.add-zero (b * 2 ^ k)))
    ∙ or_block k (n / 2 ^ k) b (n % 2 ^ k) zero (N.mod-lt n (pow_pos k)) (pow_pos k)
    ∙ ap₂ (λ (x y : ℕ). x * 2 ^ k + y) (or-digit (n / 2 ^ k) b h) (or_zero_r (n % 2 ^ k))

half_of : (B X m : ℕ) → B ≡ X * 2 + m → m < 2 → B / 2 ≡ X
half_of B X m e h = omega arith

low_of : (B X m : ℕ) → B ≡ X * 2 + m → m < 2 → B % 2 ≡ m
low_of B X m e h = omega arith

pub ones-selected : (k l t : ℕ) → t < 2 ^ k → ones (bit_and l t) ≡ selected k l t
unfolding selected ones
ones-selected zero l t h = ap (λ (x : ℕ). ones (bit_and l x)) (zero_of t h) ∙ ap ones (and_zero_r l)
  where
    zero_of : (t : ℕ) → t < 2 ^ zero → t ≡ 0
    zero_of t h = omega arith
ones-selected (suc k) l t h =
    ones_step (bit_and l t)
    ∙ ap₂ (λ (x y : ℕ). x + y)
    (low_of (bit_and l t) (bit_and (l / 2) (t / 2)) (min (l % 2) (t % 2)) (and_step l t) (omega arith))
    (ap ones (half_of (bit_and l t) (bit_and (l / 2) (t / 2)) (min (l % 2) (t % 2)) (and_step l t) (omega arith)) ∙ ones-selected k (l / 2) (t / 2) (half_lt t (2 ^ k) (subst (λ (x : ℕ). t < x) (N.pow-suc 2 k) h)))
  where
    half_lt : (t m : ℕ) → t < m * 2 → t / 2 < m
    half_lt t m h = omega arith

-- a mask of one less than a power of two
pub masked : (x n : ℕ) → Power n → bit_and x (n - 1) ≡ x % n
masked x n p = subst (λ (m : ℕ). bit_and x (m - 1) ≡ x % m) (sym p.is) (and_mask x p.log)

-- a number with one digit set is a power of two
none-set : (d n : ℕ) → n ≤ d → ones n ≡ 0 → n ≡ 0
none-set zero n h e = omega arith
none-set (suc d) n h e = go (none-set d (n / 2) (omega arith) (omega (arith, ones_step n))) where
  go : n / 2 ≡ 0 → n ≡ 0
  go k = omega (arith, ones_step n)

one_set : (d n : ℕ) → n ≤ d → ones n ≡ 1 → Power n
unfolding ones
one_set zero zero h e = absurd (N.suc-ne-zero 0 (sym e))
one_set zero (suc n) h e = absurd (bad n h) where
  bad : (n : ℕ) → suc n ≤ 0 → ⊥
  bad n h = omega arith
one_set (suc d) n h e = at (n % 2) refl (λ k l. one_set d (n / 2) k l) where
  double : Power (n / 2) → n % 2 ≡ 0 → Power n
  double q p = record { log = suc q.log; is = omega (arith, q.is, N.pow-suc 2 q.log) }

  at : (b : ℕ) → n % 2 ≡ b → (n / 2 ≤ d → ones (n / 2) ≡ 1 → Power (n / 2)) → Power n
  at zero p f = double (f (omega arith) (omega (arith, ones_step n))) p
  at (suc b) p f = record { log = 0; is = omega (arith, none-set n (n / 2) (omega arith) (omega (arith, ones_step n))) }

pub power-of : (n : ℕ) → ones n ≡ 1 → Power n
power-of n e = one_set n n (N.le_refl n) e

-- a bit times y is at most y
pub bit_le : (b y : ℕ) → b ≤ 1 → b * y ≤ y
bit_le b y h = omega (arith, N.mul-le-mul_right y h, N.one-mul y)

-- ---- a field of w bits from bit k on

-- what is above bit k, and what is below
parts-lt : (j k a r : ℕ) → a < 2 ^ j → r < 2 ^ k → a * 2 ^ k + r < 2 ^ (j + k)
parts-lt j k a r h l = rw (pow-add 2 j k) (omega (arith, N.mul-le-mul_right (2 ^ k) h, N.suc-mul a (2 ^ k)))

-- a mask of all bits but those of the field
hole : (m w k : ℕ) → 2 ^ (m + w + k) - 1 - (2 ^ w - 1) * 2 ^ k ≡ (2 ^ m - 1) * 2 ^ w * 2 ^ k + (2 ^ k - 1)
hole m w k = rw (ones_split (m + w) k, ones_split m w) (less ((2 ^ m - 1) * 2 ^ w) (2 ^ w - 1) (2 ^ k))
  where
    less : (a b c : ℕ) → (a + b) * c + (c - 1) - b * c ≡ a * c + (c - 1)
    less a b c = rw (N.add-mul a b c) (omega arith)

module _ (k w v n : ℕ) where
  above : v < 2 ^ w → with_field k w v n / 2 ^ k ≡ n / 2 ^ k / 2 ^ w * 2 ^ w + v
  above h = P.high (n / 2 ^ k / 2 ^ w * 2 ^ w + v) k (N.mod-lt n (pow_pos k))

  -- it holds what was put
  pub field-with : v < 2 ^ w → field_of k w (with_field k w v n) ≡ v
  field-with h = ap (λ (x : ℕ). x % 2 ^ w) (above h) ∙ P.low (n / 2 ^ k / 2 ^ w) w h

  -- a field below it is as it was
  pub field_below : (j u : ℕ) → u + j ≤ k → field_of j u (with_field k w v n) ≡ field_of j u n
  field_below j u h =
      sym (P.field (with_field k w v n) u j)
      ∙ ap (λ (x : ℕ). x / 2 ^ j) (cut (with_field k w v n) ∙ ap (λ (x : ℕ). x % 2 ^ (u + j)) (P.low (n / 2 ^ k / 2 ^ w * 2 ^ w + v) k (N.mod-lt n (pow_pos k))) ∙ sym (cut n))
      ∙ P.field n u j
    where
      cut : (x : ℕ) → x % 2 ^ (u + j) ≡ x % 2 ^ k % 2 ^ (u + j)
      cut x = sym (subst (λ (e : ℕ). x % 2 ^ e % 2 ^ (u + j) ≡ x % 2 ^ (u + j)) (whole h) (mod-mod-pow x (k - (u + j)) (u + j)))
        where
          whole : u + j ≤ k → (k - (u + j)) + (u + j) ≡ k
          whole h = omega arith

  -- and so is one above it
  pub field-above : v < 2 ^ w → (j u : ℕ) → k + w ≤ j → field_of j u (with_field k w v n) ≡ field_of j u n
  field-above h j u l =
      ap (λ (x : ℕ). x % 2 ^ u)
      (down (with_field k w v n) ∙ ap (λ (x : ℕ). x / 2 ^ w / 2 ^ (j - (k + w))) (above h)
      ∙ ap (λ (x : ℕ). x / 2 ^ (j - (k + w))) (P.high (n / 2 ^ k / 2 ^ w) w h) ∙ sym (down n))
    where
      down : (x : ℕ) → x / 2 ^ j ≡ x / 2 ^ k / 2 ^ w / 2 ^ (j - (k + w))
      down x =
          ap (λ (e : ℕ). x / 2 ^ e) (whole l) ∙ sym (shr-shr x (k + w) (j - (k + w)))
          ∙ ap (λ (y : ℕ). y / 2 ^ (j - (k + w))) (sym (shr-shr x k w))
        where
          whole : k + w ≤ j → j ≡ (k + w) + (j - (k + w))
          whole l = omega arith

  -- the number keeps its width
  pub with-field-lt : (size : ℕ) → w + k ≤ size → v < 2 ^ w → n < 2 ^ size → with_field k w v n < 2 ^ size
  with-field-lt size f h l = subst (λ (e : ℕ). n < 2 ^ e → with_field k w v n < 2 ^ e) (whole f) (at (size - (w + k))) l
    where
      whole : w + k ≤ size → (size - (w + k)) + w + k ≡ size
      whole f = omega arith

      at : (m : ℕ) → n < 2 ^ (m + w + k) → with_field k w v n < 2 ^ (m + w + k)
      at m l =
          parts-lt (m + w) k (n / 2 ^ k / 2 ^ w * 2 ^ w + v) (n % 2 ^ k)
          (parts-lt m w (n / 2 ^ k / 2 ^ w) v (shr_lt {n = n / 2 ^ k} m w (shr_lt {n = n} (m + w) k l)) h)
          (N.mod-lt n (pow_pos k))

  cleared : (m : ℕ) → n < 2 ^ (m + w + k) → bit_and n (2 ^ (m + w + k) - 1 - (2 ^ w - 1) * 2 ^ k) ≡ n / 2 ^ k / 2 ^ w * 2 ^ w * 2 ^ k + n % 2 ^ k
  cleared m l =
      ap₂ bit_and (sym (split n k)) (hole m w k)
      ∙ and_block k (n / 2 ^ k) ((2 ^ m - 1) * 2 ^ w) (n % 2 ^ k) (2 ^ k - 1) (N.mod-lt n (pow_pos k)) (ones_lt k)
      ∙ ap₂ (λ (x y : ℕ). x * 2 ^ k + y) high_part (and_mask (n % 2 ^ k) k ∙ N.mod-mod n (2 ^ k))
    where
      high_part : bit_and (n / 2 ^ k) ((2 ^ m - 1) * 2 ^ w) ≡ n / 2 ^ k / 2 ^ w * 2 ^ w
      high_part =
          ap (bit_and (n / 2 ^ k)) (sym (high_ones m w)) ∙ and_high (n / 2 ^ k) m w
          ∙ ap (λ (x : ℕ). x * 2 ^ w) (shr_mod {n = n / 2 ^ k} m w (shr_lt {n = n} (m + w) k l))

  put-at : (m : ℕ) → v < 2 ^ w → n < 2 ^ (m + w + k) → bit_or (bit_and n (2 ^ (m + w + k) - 1 - (2 ^ w - 1) * 2 ^ k)) (v * 2 ^ k) ≡ with_field k w v n
  put-at m h l =
      ap₂ bit_or (cleared m l) (sym (N.add-zero (v * 2 ^ k)))
      ∙ or_block k (n / 2 ^ k / 2 ^ w * 2 ^ w) v (n % 2 ^ k) zero (N.mod-lt n (pow_pos k)) (pow_pos k)
      ∙ ap₂ (λ (x y : ℕ). x * 2 ^ k + y) (or_shifted (n / 2 ^ k / 2 ^ w) w v h) (or_zero_r (n % 2 ^ k))

  -- in a word of `size` bits: the field cleared by a mask, and the value shifted into it
  pub put-field : (size : ℕ) → w + k ≤ size → v < 2 ^ w → n < 2 ^ size → bit_or (bit_and n (2 ^ size - 1 - (2 ^ w - 1) * 2 ^ k % 2 ^ size)) (v * 2 ^ k % 2 ^ size) ≡ with_field k w v n
  put-field size f h l =
      ap₂ (λ (x y : ℕ). bit_or (bit_and n (2 ^ size - 1 - x)) y) (shl_exact {a = 2 ^ w - 1} w k size (ones_lt w) f) (shl_exact {a = v} w k size h f)
      ∙ subst (λ (e : ℕ). n < 2 ^ e → bit_or (bit_and n (2 ^ e - 1 - (2 ^ w - 1) * 2 ^ k)) (v * 2 ^ k) ≡ with_field k w v n) (whole f) (put-at (size - (w + k)) h) l
    where
      whole : w + k ≤ size → (size - (w + k)) + w + k ≡ size
      whole f = omega arith
