-- What fits a signed width, by the size of an integer or by its two parts. Assumes nothing.
use mathlib.Core.Path.{◌≡◌, refl, sym, ◌∙◌}
use mathlib.Core.Bool.{Bool, true, false, cond}
use Prim.Native.Nat.{ℕ, zero, suc, ◌+◌, ◌*◌, ◌≤◌, ◌<◌, ◌/◌, ◌^◌, min}
use native.Mathlib.Nat as N
use native.Mathlib.Omega.{arith}
use lib.IntN.{ℤ, pos, negsuc, neg_ℤ, nat_abs, ◌+ℤ◌, ◌-ℤ◌, ◌*ℤ◌}
use lib.Signed.{lt_z, quot_z}
use mir.Syntax.{Width, w16, w32, w64}
use mir.Val.{SFits, hbits}
use Rattle.num.specs.Integers.{up, down, clamp, clamp16, signed}
use Rattle.num.proofs.Choice.{cond-by, never}
use Rattle.std.specs.Int.{int_max, int_min}
use lib.Dec.{ltb}
use borrow.Author.Tests.{ltb-true, ltb-false}
use Rattle.num.proofs.Integers.{fit, fit-up, fit-down, z-add, z-sub, one-zero, lt_z-true, lt_z-false, lt-lt_z, le-lt_z, abs_is, up_neg, down-neg, up-quot, down-quot}

-- a narrower width fits a wider one
pub widen : (v w : Width) {x : ℤ} → 2 ^ hbits v ≤ 2 ^ hbits w → SFits v x → SFits w x
widen v w {x} h f = fit w x (N.lt_of_lt_of_le (fit-up f) h) (N.le_trans (fit-down f) h)

pub widen16-32 : {x : ℤ} → SFits w16 x → SFits w32 x
widen16-32 f = widen w16 w32 (omega arith) f

pub widen16-64 : {x : ℤ} → SFits w16 x → SFits w64 x
widen16-64 f = widen w16 w64 (omega arith) f

pub widen32-64 : {x : ℤ} → SFits w32 x → SFits w64 x
widen32-64 f = widen w32 w64 (omega arith) f

-- by its size
pub fit-abs : (w : Width) (z : ℤ) (m : ℕ) → nat_abs z ≤ m → m < 2 ^ hbits w → SFits w z
fit-abs w z m h k = fit w z (N.lt_of_le_of_lt (omega (arith, abs_is z)) k) (N.le_trans (omega (arith, abs_is z)) (N.le_of_lt k))

pub abs-fit : (w : Width) {x : ℤ} → SFits w x → nat_abs x ≤ 2 ^ hbits w
abs-fit w {x} f = omega (arith, abs_is x, fit-up f, fit-down f, one-zero x)

-- sizes of sums, products, quotients, signs
pub abs_neg : (n : ℕ) → nat_abs (neg_ℤ (pos n)) ≡ n
abs_neg zero = refl
abs_neg (suc n) = refl

pub abs-add : (x y : ℤ) → nat_abs (x +ℤ y) ≤ nat_abs x + nat_abs y
abs-add x y = omega (arith, abs_is x, abs_is y, abs_is (x +ℤ y), z-add x y, one-zero (x +ℤ y), one-zero x, one-zero y)

pub abs-sub : (x y : ℤ) → nat_abs (x -ℤ y) ≤ nat_abs x + nat_abs y
abs-sub x y = omega (arith, abs_is x, abs_is y, abs_is (x -ℤ y), z-sub x y, one-zero (x -ℤ y), one-zero x, one-zero y)

pub abs-mul : (x y : ℤ) → nat_abs (x *ℤ y) ≡ nat_abs x * nat_abs y
abs-mul (pos a) (pos b) = refl
abs-mul (pos a) (negsuc b) = abs_neg (a * suc b)
abs-mul (negsuc a) (pos b) = abs_neg (suc a * b)
abs-mul (negsuc a) (negsuc b) = refl

pub mul_small : (x y : ℤ) (a b : ℕ) → nat_abs x ≤ a → nat_abs y ≤ b → nat_abs (x *ℤ y) ≤ a * b
mul_small x y a b h k = rw abs-mul (N.mul-le-mul h k)

pub abs-quot : (z : ℤ) (k : ℕ) → nat_abs (quot_z z (pos k)) ≡ nat_abs z / k
abs-quot (pos a) k = refl
abs-quot (negsuc a) k = abs_neg (suc a / k)

pub abs-signed : (b : Bool) (n : ℕ) → nat_abs (signed b n) ≡ n
abs-signed true n = abs_neg n
abs-signed false n = refl

-- a clamp lies between its bounds
pub clamp-range : (z : ℤ) (n : ℕ) → (down (clamp z (pos 0) (pos n)) ≡ 0) × (up (clamp z (pos 0) (pos n)) ≤ n)
clamp-range z n =
    cond-by (λ (x : ℤ). (down x ≡ 0) × (up x ≤ n)) (lt_z z (pos 0)) (pos 0) (cond (lt_z (pos n) z) (pos n) z) (λ e. (refl, omega arith))
    (λ e. cond-by (λ (x : ℤ). (down x ≡ 0) × (up x ≤ n)) (lt_z (pos n) z) (pos n) z (λ g. (refl, omega arith))
    (λ g. (omega (arith, lt_z-false z (pos 0) e, one-zero z), omega (arith, lt_z-false (pos n) z g, lt_z-false z (pos 0) e, one-zero z))))

pub clamp-step : (z : ℤ) (s : ℕ) → nat_abs (clamp z (neg_ℤ (pos s)) (pos s)) ≤ s
clamp-step z s =
    cond-by (λ (x : ℤ). nat_abs x ≤ s) (lt_z z (neg_ℤ (pos s))) (neg_ℤ (pos s)) (cond (lt_z (pos s) z) (pos s) z) (λ e. omega (arith, abs_neg s))
    (λ e. cond-by (λ (x : ℤ). nat_abs x ≤ s) (lt_z (pos s) z) (pos s) z (λ g. omega arith)
    (λ g. omega (arith, abs_is z, lt_z-false (pos s) z g, lt_z-false z (neg_ℤ (pos s)) e, one-zero z, up_neg (pos s), down-neg (pos s))))

-- the clamp to a signed width
pub clamp-width : (z : ℤ) (n : ℕ) → (up (clamp z (negsuc n) (pos n)) ≤ n) × (down (clamp z (negsuc n) (pos n)) ≤ suc n)
clamp-width z n =
    cond-by (λ (x : ℤ). (up x ≤ n) × (down x ≤ suc n)) (lt_z z (negsuc n)) (negsuc n) (cond (lt_z (pos n) z) (pos n) z) (λ e. (omega arith, omega arith))
    (λ e. cond-by (λ (x : ℤ). (up x ≤ n) × (down x ≤ suc n)) (lt_z (pos n) z) (pos n) z (λ g. (omega arith, omega arith))
    (λ g. (omega (arith, lt_z-false (pos n) z g, one-zero z), omega (arith, lt_z-false z (negsuc n) e, one-zero z))))

pub clamp16-fits : (z : ℤ) → SFits w16 (clamp16 z)
clamp16-fits z = let h = clamp-width z 32767 in fit w16 _ (omega arith) (omega arith)

-- a clamp from 0 on, and one to a step either way, by the two parts
clamp-top : (n top : ℕ) → up (clamp (pos n) (pos 0) (pos top)) ≡ min n top
clamp-top n top = rw (le-lt_z (pos n) (pos 0) (omega arith)) (at (ltb top n) refl)
  where
    at : (t : Bool) → ltb top n ≡ t → up (cond (lt_z (pos top) (pos n)) (pos top) (pos n)) ≡ min n top
    at true e = let s = ltb-true top n e in rw (lt-lt_z (pos top) (pos n) (omega arith)) (omega arith)
    at false e = let s = ltb-false top n e in rw (le-lt_z (pos top) (pos n) (omega arith)) (omega arith)

pub up-clamp : (z : ℤ) (top : ℕ) → up (clamp z (pos 0) (pos top)) ≡ min (up z) top
up-clamp (pos n) top = clamp-top n top
up-clamp (negsuc n) top = omega arith

pub step-parts : (z : ℤ) (s : ℕ) → (up (clamp z (neg_ℤ (pos s)) (pos s)) ≡ min (up z) s) × (down (clamp z (neg_ℤ (pos s)) (pos s)) ≡ min (down z) s)
step-parts z s =
    let a = up_neg (pos s) in
    let b = down-neg (pos s) in
    let o = one-zero z in
    cond-by (λ (x : ℤ). (up x ≡ min (up z) s) × (down x ≡ min (down z) s)) (lt_z z (neg_ℤ (pos s))) (neg_ℤ (pos s)) (cond (lt_z (pos s) z) (pos s) z)
    (λ e. (omega (arith, lt_z-true z (neg_ℤ (pos s)) e), omega (arith, lt_z-true z (neg_ℤ (pos s)) e)))
    (λ e. cond-by (λ (x : ℤ). (up x ≡ min (up z) s) × (down x ≡ min (down z) s)) (lt_z (pos s) z) (pos s) z
    (λ g. (omega (arith, lt_z-true (pos s) z g), omega (arith, lt_z-true (pos s) z g)))
    (λ g. (omega (arith, lt_z-false (pos s) z g), omega (arith, lt_z-false z (neg_ℤ (pos s)) e))))

-- the quotient toward zero fits where its dividend does
pub quot_fits : (w : Width) {z : ℤ} (k : ℕ) → SFits w z → SFits w (quot_z z (pos k))
quot_fits w {z} k f =
    fit w _ (N.lt_of_le_of_lt (rw up-quot (N.div-le_self (up z) k)) (fit-up f)) (N.le_trans (rw down-quot (N.div-le_self (down z) k)) (fit-down f))

-- a product with a number of 8 bits fits 32 bits, and so does its quotient
module _ (z : ℤ) (h : nat_abs z ≤ 8388608) (n : ℕ) (l : n ≤ 255) where
  pub scaled-abs : nat_abs (z *ℤ pos n) ≤ 8388608 * 255
  scaled-abs = mul_small z (pos n) 8388608 255 h l

  pub scaled_fits : SFits w32 (z *ℤ pos n)
  scaled_fits = fit-abs w32 _ (8388608 * 255) scaled-abs (omega arith)

-- std's clamp, by a least and a greatest, is this one between bounds in order
pub clamp-is : (z l h : ℤ) → lt_z h l ≡ false → int_max l (int_min z h) ≡ clamp z l h
clamp-is z l h o =
    cond-by (λ (m : ℤ). int_max l m ≡ clamp z l h) (lt_z h z) h z
    (λ e. cond-by (λ (x : ℤ). int_max l h ≡ x) (lt_z z l) l (cond (lt_z h z) h z) (λ t. absurd (omega (arith, lt_z-true z l t, lt_z-true h z e, lt_z-false h l o))) (λ f. rw (e, o)))
    (λ e. cond-by (λ (x : ℤ). cond (lt_z z l) l z ≡ cond (lt_z z l) l x) (lt_z h z) h z (λ g. never (sym g ∙ e)) (λ g. refl))
