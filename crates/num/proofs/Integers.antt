-- Linear arithmetic over ℤ, for `omega`: an integer is `up z - down z`, two natural numbers of which one is 0.
-- Each law is a fact of natural numbers, to be put into omega's list. Assumes nothing.
use mathlib.Core.Path.{◌≡◌, refl, sym, ap, ◌∙◌, subst}
use mathlib.Core.Bool.{Bool, true, false, not, cond}
use Prim.Native.Nat.{ℕ, zero, suc, ◌+◌, ◌-◌, ◌*◌, ◌/◌, ◌^◌, ◌≤◌, ◌<◌, min}
use native.Mathlib.Nat as N
use native.Mathlib.Omega.{arith}
use lib.Dec.{T, ltb, ltb→lt, nltb→le}
use lib.IntN.{ℤ, pos, negsuc, neg_ℤ, nat_abs, sub_ℕ, ◌+ℤ◌, ◌-ℤ◌, ◌*ℤ◌}
use lib.Signed.{mag, lt_z, le_z, non_neg, quot_z, shr_z}
use borrow.Author.Tests.{ltb-true, ltb-false, leb-true, leb-false, lt-ltb, le-ltb}
use mir.Syntax.{Width}
use mir.Val.{SFits, hbits, bits, to_z, of_z}
use mir.Facts.{to_z-of_z}
use Rattle.num.specs.Integers.{up, down}

-- one of the two is 0
pub one-zero : (z : ℤ) → min (up z) (down z) ≡ 0
one-zero (pos n) = omega arith
one-zero (negsuc n) = omega arith

-- equal differences, equal integers
pub z-eq : (x y : ℤ) → up x + down y ≡ up y + down x → x ≡ y
z-eq (pos a) (pos b) h = ap pos (omega arith)
z-eq (pos a) (negsuc b) h = absurd (bad a b h)
  where
    bad : (a b : ℕ) → a + suc b ≡ 0 + 0 → ⊥
    bad a b h = omega arith
z-eq (negsuc a) (pos b) h = absurd (bad a b h)
  where
    bad : (a b : ℕ) → 0 + 0 ≡ b + suc a → ⊥
    bad a b h = omega arith
z-eq (negsuc a) (negsuc b) h = ap negsuc (omega arith)

cond_ind : (c : Bool) (x y : ℤ) (P : ℤ → Type 0) → (T c → P x) → (T (not c) → P y) → P (cond c x y)
cond_ind true x y P f g = f tt
cond_ind false x y P f g = g tt

sub-law : (a b : ℕ) → up (sub_ℕ a b) + b ≡ down (sub_ℕ a b) + a
sub-law a b =
    cond_ind (ltb a b) (negsuc (b - suc a)) (pos (a - b)) (λ z. up z + b ≡ down z + a) (λ t. lt a b (ltb→lt a b t))
    (λ t. ge a b (nltb→le a b t))
  where
    lt : (a b : ℕ) → a < b → 0 + b ≡ suc (b - suc a) + a
    lt a b h = omega arith

    ge : (a b : ℕ) → b ≤ a → (a - b) + b ≡ 0 + a
    ge a b h = omega arith

-- the sum
pub z-add : (x y : ℤ) → up (x +ℤ y) + (down x + down y) ≡ down (x +ℤ y) + (up x + up y)
z-add (pos a) (pos b) = omega arith
z-add (pos a) (negsuc b) = omega (arith, sub-law a (suc b))
z-add (negsuc a) (pos b) = omega (arith, sub-law b (suc a))
z-add (negsuc a) (negsuc b) = omega arith

pub up_neg : (x : ℤ) → up (neg_ℤ x) ≡ down x
up_neg (pos zero) = refl
up_neg (pos (suc n)) = refl
up_neg (negsuc n) = refl

pub down-neg : (x : ℤ) → down (neg_ℤ x) ≡ up x
down-neg (pos zero) = refl
down-neg (pos (suc n)) = refl
down-neg (negsuc n) = refl

-- the difference
pub z-sub : (x y : ℤ) → up (x -ℤ y) + (down x + up y) ≡ down (x -ℤ y) + (up x + down y)
z-sub x y = omega (arith, z-add x (neg_ℤ y), up_neg y, down-neg y)

-- the tests
pub lt_z-true : (x y : ℤ) → lt_z x y ≡ true → up x + down y < up y + down x
lt_z-true (pos a) (pos b) h = omega (arith, ltb-true a b h)
lt_z-true (pos a) (negsuc b) h = absurd (subst T (sym h) tt)
lt_z-true (negsuc a) (pos b) h = omega arith
lt_z-true (negsuc a) (negsuc b) h = omega (arith, ltb-true b a h)

pub lt_z-false : (x y : ℤ) → lt_z x y ≡ false → up y + down x ≤ up x + down y
lt_z-false (pos a) (pos b) h = omega (arith, ltb-false a b h)
lt_z-false (pos a) (negsuc b) h = omega arith
lt_z-false (negsuc a) (pos b) h = absurd (subst T h tt)
lt_z-false (negsuc a) (negsuc b) h = omega (arith, ltb-false b a h)

pub le_z-true : (x y : ℤ) → le_z x y ≡ true → up x + down y ≤ up y + down x
le_z-true (pos a) (pos b) h = omega (arith, leb-true a b h)
le_z-true (pos a) (negsuc b) h = absurd (subst T (sym h) tt)
le_z-true (negsuc a) (pos b) h = omega arith
le_z-true (negsuc a) (negsuc b) h = omega (arith, leb-true b a h)

pub le_z-false : (x y : ℤ) → le_z x y ≡ false → up y + down x < up x + down y
le_z-false (pos a) (pos b) h = omega (arith, leb-false a b h)
le_z-false (pos a) (negsuc b) h = omega arith
le_z-false (negsuc a) (pos b) h = absurd (subst T h tt)
le_z-false (negsuc a) (negsuc b) h = omega (arith, leb-false b a h)

-- and back
pub lt-lt_z : (x y : ℤ) → up x + down y < up y + down x → lt_z x y ≡ true
lt-lt_z (pos a) (pos b) h = lt-ltb a b (omega arith)
lt-lt_z (pos a) (negsuc b) h = absurd (bad a b h)
  where
    bad : (a b : ℕ) → a + suc b < 0 + 0 → ⊥
    bad a b h = omega arith
lt-lt_z (negsuc a) (pos b) h = refl
lt-lt_z (negsuc a) (negsuc b) h = lt-ltb b a (omega arith)

pub le-lt_z : (x y : ℤ) → up y + down x ≤ up x + down y → lt_z x y ≡ false
le-lt_z (pos a) (pos b) h = le-ltb a b (omega arith)
le-lt_z (pos a) (negsuc b) h = refl
le-lt_z (negsuc a) (pos b) h = absurd (bad a b h)
  where
    bad : (a b : ℕ) → b + suc a ≤ 0 + 0 → ⊥
    bad a b h = omega arith
le-lt_z (negsuc a) (negsuc b) h = le-ltb b a (omega arith)

-- ranges. `low w z` and `high w z` are what a value of a signed type of width w has
pub mag_up : (z : ℤ) (k : ℕ) → mag z < k → up z < k
mag_up (pos n) k h = h
mag_up (negsuc n) k h = omega arith

pub mag_down : (z : ℤ) (k : ℕ) → mag z < k → down z ≤ k
mag_down (pos n) k h = omega arith
mag_down (negsuc n) k h = h

pub up-mag : (z : ℤ) (k : ℕ) → up z < k → down z ≤ k → mag z < k
up-mag (pos n) k h l = h
up-mag (negsuc n) k h l = l

-- a signed value fits: both parts are in range
pub fit : (w : Width) (z : ℤ) → up z < 2 ^ hbits w → down z ≤ 2 ^ hbits w → SFits w z
fit w z h l = record { sfits = up-mag z (2 ^ hbits w) h l }

pub fit-up : {w : Width} {z : ℤ} → SFits w z → up z < 2 ^ hbits w
fit-up {w} {z} f = mag_up z (2 ^ hbits w) f.sfits

pub fit-down : {w : Width} {z : ℤ} → SFits w z → down z ≤ 2 ^ hbits w
fit-down {w} {z} f = mag_down z (2 ^ hbits w) f.sfits

-- the machine's reading of the bits of z is z
pub back : (w : Width) (z : ℤ) → SFits w z → to_z w (of_z w z) ≡ z
back w z f = to_z-of_z f

-- size and sign
pub abs_is : (z : ℤ) → nat_abs z ≡ up z + down z
abs_is (pos n) = omega arith
abs_is (negsuc n) = omega arith

pub is-non_neg : (z : ℤ) → down z ≡ 0 → T (non_neg z)
is-non_neg (pos n) h = tt
is-non_neg (negsuc n) h = absurd (N.suc-ne-zero n h)

pub up-minus : (n : ℕ) → up (neg_ℤ (pos n)) ≡ 0
up-minus n = up_neg (pos n)

pub down-minus : (n : ℕ) → down (neg_ℤ (pos n)) ≡ n
down-minus n = down-neg (pos n)

pub zero_minus : (n : ℕ) → pos 0 -ℤ pos n ≡ neg_ℤ (pos n)
zero_minus n = z-eq (pos 0 -ℤ pos n) (neg_ℤ (pos n)) (omega (arith, z-sub (pos 0) (pos n), up-minus n, down-minus n))

-- the quotient toward zero, by a positive number
pub up-quot : (z : ℤ) (k : ℕ) → up (quot_z z (pos k)) ≡ up z / k
up-quot (pos n) k = refl
up-quot (negsuc n) k = up-minus (suc n / k) ∙ sym (N.zero-div k)

pub down-quot : (z : ℤ) (k : ℕ) → down (quot_z z (pos k)) ≡ down z / k
down-quot (pos n) k = sym (N.zero-div k)
down-quot (negsuc n) k = down-minus (suc n / k)

-- the product with a number that is not negative
pub up-mul : (z : ℤ) (k : ℕ) → up (z *ℤ pos k) ≡ up z * k
up-mul (pos n) k = refl
up-mul (negsuc n) k = up-minus (suc n * k) ∙ sym (N.zero-mul k)

pub down-mul : (z : ℤ) (k : ℕ) → down (z *ℤ pos k) ≡ down z * k
down-mul (pos n) k = sym (N.zero-mul k)
down-mul (negsuc n) k = down-minus (suc n * k)

-- the shift that rounds down: what it gives times m, and less than m more, is z
pub up-shr : (z : ℤ) (m : ℕ) → up (shr_z z m) ≡ up z / m
up-shr (pos n) m = refl
up-shr (negsuc n) m = sym (N.zero-div m)

-- the bits of a signed number, from its two parts
pub of_z_neg : (w : Width) (z : ℤ) → 0 < down z → of_z w z ≡ 2 ^ bits w - down z
of_z_neg w (pos n) h = absurd (N.lt_irrefl 0 h)
of_z_neg w (negsuc n) h = refl

pub of_z-pos : (w : Width) (z : ℤ) → down z ≡ 0 → of_z w z ≡ up z
of_z-pos w (pos n) h = refl
of_z-pos w (negsuc n) h = absurd (N.suc-ne-zero n h)

-- and the number of bits in the upper half
pub to_z-high : (w : Width) (n : ℕ) → 2 ^ hbits w ≤ n → to_z w n ≡ negsuc (2 ^ bits w - suc n)
to_z-high w n h = rw (le-ltb n (2 ^ hbits w) h)
