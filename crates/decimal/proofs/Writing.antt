-- What is written: the equations of `decimal`, and texts put one behind the other. Assumes nothing.
use mathlib.Core.Path.{◌≡◌, refl, sym, ap, ◌∙◌}
use mathlib.Core.Bool.{Bool, true, false}
use mathlib.Core.List.{List, [], ◌∷◌, ◌++◌, append_assoc, append-nil}
use Prim.Native.Nat.{ℕ, zero, suc, ◌+◌, ◌/◌, ◌%◌, ◌≤◌, ◌<◌, ◌^◌}
use native.Mathlib.Nat.{pow-suc}
use native.Mathlib.Numerals.{add-one}
use native.Mathlib.Omega.{arith}
use native.Mathlib.Decide.{dec_le}
use lib.Dec.{ltb}
use lib.IntN.{ℤ, pos, negsuc, nat_abs}
use lib.ListN.{length, take, get_or, length-append}
use lib.Seq.{take-suc}
use mir.Syntax.{w16}
use mir.Val.{SFits}
use borrow.Author.Tests.{ltb-false, lt-ltb, le-ltb}
use Rattle.num.specs.Integers.{down}
use Rattle.num.proofs.Integers.{fit-up, fit-down}
use Rattle.output.specs.declared.Output.{Output}
use Rattle.output.specs.Output.{Puts}
use Rattle.output.proofs.Writing.{puts-append}
use Rattle.decimal.specs.Written.{digits_in, decimal, render, each}

enough : (f g n : ℕ) → n < f → n < g → digits_in f n ≡ digits_in g n
unfolding digits_in
enough zero g n h k = absurd (omega arith)
enough (suc f) zero n h k = absurd (omega arith)
enough (suc f) (suc g) n h k = go (ltb n 10) refl (enough f g (n / 10))
  where
    go : (b : Bool) → ltb n 10 ≡ b → (n / 10 < f → n / 10 < g → digits_in f (n / 10) ≡ digits_in g (n / 10)) → digits_in (suc f) n ≡ digits_in (suc g) n
    go true e ih = rw (digits_in, e)
    go false e ih = let l : 10 ≤ n = ltb-false n 10 e in rw (digits_in, e, ih (omega arith) (omega arith))

pub decimal-small : (n : ℕ) → n < 10 → decimal n ≡ (48 + n) ∷ []
unfolding decimal digits_in
decimal-small n h = rw (digits_in, lt-ltb n 10 h)

pub decimal-more : (n : ℕ) → 10 ≤ n → decimal n ≡ decimal (n / 10) ++ ((48 + n % 10) ∷ [])
unfolding decimal digits_in
decimal-more n h = rw (digits_in, le-ltb n 10 h, enough n (suc (n / 10)) (n / 10) (omega arith) (omega arith))

pub width_small : (n : ℕ) → n < 10 → length (decimal n) ≡ 1
width_small n h = rw (decimal-small n h)

pub width-more : (n : ℕ) → 10 ≤ n → length (decimal n) ≡ length (decimal (n / 10)) + 1
width-more n h = rw (decimal-more n h) (length-append (decimal (n / 10)) ((48 + n % 10) ∷ []))

-- as many digits as a power of ten has zeros hold each number below it
pub width-below : (k n : ℕ) → n < 10 ^ suc k → length (decimal n) ≤ suc k
width-below zero n h = omega (arith, width_small n (omega arith))
width-below (suc k) n h = elim (dec_le 10 n) [ yes l ↦ omega (arith, width-more n l, width-below k (n / 10) (omega (arith, pow-suc 10 (suc k)))) | no l ↦ omega (arith, width_small n (omega arith)) ]

pub width-most : (n : ℕ) → n < 2 ^ 64 → length (decimal n) ≤ 20
width-most n h = width-below 19 n (omega arith)

-- a sample's numeral has at most six bytes
pub sample-width : (z : ℤ) → SFits w16 z → length (render z) ≤ 6
unfolding render
sample-width (pos n) h = omega (arith, width-below 4 n (omega (arith, fit-up h)))
sample-width (negsuc n) h = omega (arith, width-below 4 (suc n) (omega (arith, fit-down h)))

-- ---- the texts of a list's elements
each_append : {A : Type 0} (f : A → List ℕ) (xs ys : List A) → each f (xs ++ ys) ≡ each f xs ++ each f ys
each_append f [] ys = refl
each_append f (x ∷ xs) ys = rw (each_append f xs ys) (sym (append_assoc (f x) (each f xs) (each f ys)))

-- the text of one element more
pub each_next : {A : Type 0} (f : A → List ℕ) (d : A) (xs : List A) (i : ℕ) → i < length xs → each f (take (i + 1) xs) ≡ each f (take i xs) ++ f (get_or xs i d)
each_next f d xs i h = rw (add-one i, take-suc xs i d h) (each_append f (take i xs) (get_or xs i d ∷ []) ∙ ap (λ (t : List ℕ). each f (take i xs) ++ t) (append-nil (f (get_or xs i d))))

pub puts-each : {A : Type 0} (f : A → List ℕ) (d : A) (s t u : Output) (xs : List A) (i : ℕ) → i < length xs → Puts s t (each f (take i xs)) → Puts t u (f (get_or xs i d)) → Puts s u (each f (take (i + 1) xs))
puts-each f d s t u xs i h p q = rw (each_next f d xs i h) (puts-append s t u (each f (take i xs)) (f (get_or xs i d)) p q)

-- ---- a numeral, digit by digit
pub puts_small : (s t : Output) (n : ℕ) → n < 10 → Puts s t ((48 + n % 10) ∷ []) → Puts s t (decimal n)
puts_small s t n h p = rw (decimal-small n h) (let e : n % 10 ≡ n = omega arith in rw e at p)

pub puts-more : (s t u : Output) (n : ℕ) → 10 ≤ n → Puts s t (decimal (n / 10)) → Puts t u ((48 + n % 10) ∷ []) → Puts s u (decimal n)
puts-more s t u n h p q = rw (decimal-more n h) (puts-append s t u (decimal (n / 10)) ((48 + n % 10) ∷ []) p q)

-- ---- the sign
pub render-minus : (z : ℤ) → 0 < down z → render z ≡ 45 ∷ decimal (nat_abs z)
unfolding render
render-minus (pos n) h = absurd (omega arith)
render-minus (negsuc n) h = refl

pub render-plus : (z : ℤ) → down z ≡ 0 → render z ≡ decimal (nat_abs z)
unfolding render
render-plus (pos n) h = refl
render-plus (negsuc n) h = absurd (omega arith)

-- ---- an integer's numeral: n is its size
pub puts-minus : (s t u : Output) (n : ℕ) (z : ℤ) → 0 < down z → n ≡ nat_abs z → Puts s t (45 ∷ []) → Puts t u (decimal n) → Puts s u (render z)
puts-minus s t u n z h e p q = rw (render-minus z h, ← e) (puts-append s t u (45 ∷ []) (decimal n) p q)

pub puts-plus : (s t : Output) (n : ℕ) (z : ℤ) → down z ≡ 0 → n ≡ nat_abs z → Puts s t (decimal n) → Puts s t (render z)
puts-plus s t n z h e p = rw (render-plus z h, ← e) p

pub width-minus : (n w : ℕ) (z : ℤ) → 0 < down z → n ≡ nat_abs z → w ≡ length (decimal n) → w + 1 ≡ length (render z)
width-minus n w z h s p = rw (render-minus z h, ← s) (omega arith)

pub width-plus : (n w : ℕ) (z : ℤ) → down z ≡ 0 → n ≡ nat_abs z → w ≡ length (decimal n) → w ≡ length (render z)
width-plus n w z h s p = rw (render-plus z h, ← s) p
