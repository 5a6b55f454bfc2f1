-- Bytes as one number: bit fields over the width, what lies above a bit, and small numbers. Assumes nothing.
use mathlib.Core.Path.{◌≡◌, refl, sym, ap, ◌∙◌, subst}
use mathlib.Core.Bool.{Bool, true, false}
use mathlib.Core.List.{List, [], ◌∷◌}
use Prim.Native.Nat.{ℕ, zero, suc, ◌+◌, ◌-◌, ◌*◌, ◌/◌, ◌%◌, ◌^◌, ◌≤◌, ◌<◌}
use native.Mathlib.Nat.{zero-div, div-eq_of_lt, div-lt_iff_lt-mul, add-zero, add-mul-mod_self_left}
use native.Mathlib.Omega.{arith}
use lib.Dec.{ltb, eqb}
use lib.ListN.{get_or, drop, length, take, length-drop}
use lib.Seq.{get_or-drop}
use lib.Pow as P
use borrow.Author.Tests.{ltb-true, ltb-false, lt-ltb, le-ltb, eqb-true, eqb-false, eq-eqb, ne_eqb}
use Rattle.num.specs.Lists.{part}
use Rattle.num.specs.Bytes.{le, field}

-- the byte at a place, and what follows it
pub le-drop : (s : List ℕ) (i : ℕ) → le (drop i s) ≡ get_or s i 0 + 256 * le (drop (suc i) s)
unfolding le
le-drop [] zero = refl
le-drop [] (suc i) = refl
le-drop (b ∷ s) zero = refl
le-drop (b ∷ s) (suc i) = le-drop s i

pub le-past : (s : List ℕ) (i : ℕ) → length s ≤ i → le (drop i s) ≡ 0
unfolding le
le-past [] zero h = refl
le-past [] (suc i) h = refl
le-past (b ∷ s) zero h = absurd (omega arith)
le-past (b ∷ s) (suc i) h = le-past s i (omega arith)

-- without its first k bytes
shift : (bs : List ℕ) → ((i : ℕ) → get_or bs i 0 < 256) → (k : ℕ) → le bs / 2 ^ (8 * k) ≡ le (drop k bs)
unfolding le
shift bs h zero = omega arith
shift [] h (suc k) = zero-div (2 ^ (8 * suc k))
shift (b ∷ bs) h (suc k) =
    ap (λ (e : ℕ). (b + 256 * le bs) / 2 ^ e) (eight k) ∙ sym (P.shr-shr (b + 256 * le bs) 8 (8 * k))
    ∙ ap (λ (n : ℕ). n / 2 ^ (8 * k)) (first b (le bs) (h 0)) ∙ shift bs (λ i. h (suc i)) k
  where
    eight : (k : ℕ) → 8 * suc k ≡ 8 + 8 * k
    eight k = omega arith

    first : (b n : ℕ) → b < 256 → (b + 256 * n) / 256 ≡ n
    first b n h = omega arith

-- two tests that say the same
ltb-same : (a b c d : ℕ) → (a < b → c < d) → (c < d → a < b) → ltb a b ≡ ltb c d
ltb-same a b c d f g = go (ltb c d) refl
  where
    go : (t : Bool) → ltb c d ≡ t → ltb a b ≡ t
    go true e = lt-ltb a b (g (ltb-true c d e))
    go false e = le-ltb a b (no (ltb-false c d e))
      where
        no : d ≤ c → b ≤ a
        no l = ltb-false a b (off (ltb a b) refl)
          where
            off : (t : Bool) → ltb a b ≡ t → ltb a b ≡ false
            off true q = absurd (omega (arith, f (ltb-true a b q)))
            off false q = q

-- below bit n: below bit n % 8 of what stands from byte n / 8 on
pub below-bit : (bs : List ℕ) → ((i : ℕ) → get_or bs i 0 < 256) → (n : ℕ) → ltb (le bs) (2 ^ n) ≡ ltb (le (drop (n / 8) bs)) (2 ^ (n % 8))
below-bit bs h n =
    let w = 8 * (n / 8) in
    let e : n ≡ n % 8 + 8 * (n / 8) = omega arith in
    let q : 2 ^ n ≡ 2 ^ (n % 8) * 2 ^ (8 * (n / 8)) = ap (λ (x : ℕ). 2 ^ x) e ∙ P.pow-add 2 (n % 8) (8 * (n / 8)) in
    let iff = div-lt_iff_lt-mul {k = 2 ^ (8 * (n / 8))} {x = le bs} {y = 2 ^ (n % 8)} (P.pow_pos (8 * (n / 8))) in
    ap (λ (x : ℕ). ltb (le bs) x) q
    ∙ sym (ltb-same (le bs / 2 ^ (8 * (n / 8))) (2 ^ (n % 8)) (le bs) (2 ^ (n % 8) * 2 ^ (8 * (n / 8))) iff.0 iff.1)
    ∙ ap (λ (x : ℕ). ltb x (2 ^ (n % 8))) (shift bs h (n / 8))

-- a byte with a bit at or above p
pub byte_above : (b r p : ℕ) → (b / 2 ^ p ≡ 0 → ⊥) → ltb (b + 256 * r) (2 ^ p) ≡ false
byte_above b r p h = le-ltb (b + 256 * r) (2 ^ p) (up (ltb b (2 ^ p)) refl)
  where
    up : (t : Bool) → ltb b (2 ^ p) ≡ t → 2 ^ p ≤ b + 256 * r
    up true e = absurd (h (small e))
      where
        small : ltb b (2 ^ p) ≡ true → b / 2 ^ p ≡ 0
        small e = div-eq_of_lt (ltb-true b (2 ^ p) e)
    up false e = omega (arith, ltb-false b (2 ^ p) e)

-- a byte with none: what follows is all
pub byte-below : (b r p : ℕ) → p < 8 → b / 2 ^ p ≡ 0 → ltb (b + 256 * r) (2 ^ p) ≡ eqb r 0
byte-below b r p l h = go (eqb r 0) refl
  where
    small : b < 2 ^ p
    small = omega (arith, (div-lt_iff_lt-mul {k = 2 ^ p} {x = b} {y = 1} (P.pow_pos p)).0 (omega arith))

    go : (t : Bool) → eqb r 0 ≡ t → ltb (b + 256 * r) (2 ^ p) ≡ t
    go true e = lt-ltb (b + 256 * r) (2 ^ p) (omega (arith, small, eqb-true r 0 e))
    go false e = le-ltb (b + 256 * r) (2 ^ p) (most (eqb-false r 0 e))
      where
        most : (r ≡ 0 → ⊥) → 2 ^ p ≤ b + 256 * r
        most ne = omega (arith, P.pow_mono {i = p} {j = 8} (omega arith))

-- the tests of 256 r and r against 0 are one
pub zero-byte : (b r : ℕ) → b ≡ 0 → eqb (b + 256 * r) 0 ≡ eqb r 0
zero-byte b r z = go (eqb r 0) refl
  where
    go : (t : Bool) → eqb r 0 ≡ t → eqb (b + 256 * r) 0 ≡ t
    go true e = eq-eqb (b + 256 * r) 0 (omega (arith, eqb-true r 0 e))
    go false e = ne_eqb (b + 256 * r) 0 (λ q. eqb-false r 0 e (omega arith))

-- four bytes
pub le_four : (d : List ℕ) (a : ℕ) → a + 4 ≤ length d → le (part d a 4) ≡ get_or d a 0 + 256 * get_or d (a + 1) 0 + 65536 * get_or d (a + 2) 0 + 16777216 * get_or d (a + 3) 0
unfolding le
le_four d a h = four (drop a d) (rw length-drop (omega arith)) ∙ rw (get_or-drop a d 0 0, get_or-drop a d 1 0, get_or-drop a d 2 0, get_or-drop a d 3 0, add-zero a)
  where
    four : (xs : List ℕ) → 4 ≤ length xs → le (take 4 xs) ≡ get_or xs 0 0 + 256 * get_or xs 1 0 + 65536 * get_or xs 2 0 + 16777216 * get_or xs 3 0
    four [] h = absurd (omega arith)
    four (a ∷ []) h = absurd (omega arith)
    four (a ∷ b ∷ []) h = absurd (omega arith)
    four (a ∷ b ∷ c ∷ []) h = absurd (omega arith)
    four (a ∷ b ∷ c ∷ e ∷ xs) h = omega arith

-- the two first bytes, and the rest above them
two : (l : List ℕ) → le l ≡ get_or l 0 0 + 256 * get_or l 1 0 + 65536 * le (drop 2 l)
unfolding le
two [] = refl
two (x ∷ []) = omega arith
two (x ∷ (y ∷ l)) = omega arith

-- what lies at bit 16 and above does not reach r + w ≤ 16
cut : (x y r w : ℕ) → r + w ≤ 16 → (x + 65536 * y) / 2 ^ r % 2 ^ w ≡ x / 2 ^ r % 2 ^ w
cut x y r w h =
    sym (P.field (x + 65536 * y) w r) ∙ ap (λ (n : ℕ). n / 2 ^ r) (same x y (w + r) (omega arith)) ∙ P.field x w r
  where
    low : (n k : ℕ) → k ≤ 16 → n % 2 ^ k ≡ n % 65536 % 2 ^ k
    low n k h = sym (subst (λ (e : ℕ). n % 2 ^ e % 2 ^ k ≡ n % 2 ^ k) (whole k h) (P.mod-mod-pow n (16 - k) k))
      where
        whole : (k : ℕ) → k ≤ 16 → (16 - k) + k ≡ 16
        whole k h = omega arith

    same : (x y k : ℕ) → k ≤ 16 → (x + 65536 * y) % 2 ^ k ≡ x % 2 ^ k
    same x y k h =
        low (x + 65536 * y) k h ∙ ap (λ (n : ℕ). n % 2 ^ k) (add-mul-mod_self_left x 65536 y) ∙ sym (low x k h)

-- the field of width w at bit 8 k + r: in the window of byte k and the next
pub window : (bs : List ℕ) → ((i : ℕ) → get_or bs i 0 < 256) → (k r w : ℕ) → r ≤ 7 → w ≤ 8 → field bs (8 * k + r) w ≡ (get_or bs k 0 + 256 * get_or bs (k + 1) 0) / 2 ^ r % 2 ^ w
window bs h k r w l m =
    ap (λ (n : ℕ). n % 2 ^ w) (sym (P.shr-shr (le bs) (8 * k) r))
    ∙ ap (λ (n : ℕ). n / 2 ^ r % 2 ^ w) (shift bs h k ∙ two (drop k bs))
    ∙ cut _ _ r w (omega arith)
    ∙ ap (λ (n : ℕ). n / 2 ^ r % 2 ^ w) (heads k)
  where
    heads : (k : ℕ) → get_or (drop k bs) 0 0 + 256 * get_or (drop k bs) 1 0 ≡ get_or bs k 0 + 256 * get_or bs (k + 1) 0
    heads k = rw (get_or-drop k bs 0 0, get_or-drop k bs 1 0, add-zero k)
