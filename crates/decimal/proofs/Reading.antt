-- What is read: the equations of the readers' definitions, one for each way that the code goes. Assumes nothing.
use mathlib.Core.Path.{◌≡◌, refl, ap}
use mathlib.Core.Bool.{Bool, true, false}
use mathlib.Core.List.{List, [], ◌∷◌}
use Prim.Native.Nat.{ℕ, zero, suc, ◌+◌, ◌-◌, ◌*◌, ◌^◌, ◌≤◌, ◌<◌}
use native.Mathlib.Nat.{add-zero}
use native.Mathlib.Numerals.{add-one}
use native.Mathlib.Omega.{arith}
use lib.Dec.{leb}
use lib.IntN.{pos, negsuc}
use lib.ListN.{length, drop, get_or}
use borrow.Author.Tests.{lt-ltb, le-ltb, leb-true, le-leb, eq-eqb, ne_eqb}
use Rattle.decimal.specs.Read.{digit, digit_at, digits_of, spelled, natural, bounded, spelled_at, natural_at, negative, positive, number_at}
use Rattle.std.specs.Prelude.{Some, None}

pub is_digit : (c : ℕ) → 48 ≤ c → c ≤ 57 → digit c ≡ true
is_digit c h k = rw (le-leb 48 c h) (le-leb c 57 k)

pub digit_low : (c : ℕ) → digit c ≡ true → 48 ≤ c
digit_low c e = go (leb 48 c) refl
  where
    go : (b : Bool) → leb 48 c ≡ b → 48 ≤ c
    go true f = leb-true 48 c f
    go false f = let z : false ≡ true = rw f at e in absurd (let q : ◌≡◌ {A = ℕ} 0 1 = cc in omega arith)

pub digit-high : (c : ℕ) → digit c ≡ true → c ≤ 57
digit-high c e = leb-true c 57 (rw (le-leb 48 c (digit_low c e)) at e)

-- a digit stands only inside a text
pub digit-in : (t : List ℕ) (i : ℕ) → digit_at t i ≡ true → i < length t
unfolding digit_at
digit-in [] i e = absurd (let q : ◌≡◌ {A = ℕ} 0 1 = cc in omega arith)
digit-in (c ∷ t) zero e = omega arith
digit-in (c ∷ t) (suc i) e = omega (arith, digit-in t i e)

pub digit-least : (t : List ℕ) (i : ℕ) → digit_at t i ≡ true → 48 ≤ get_or t i 0
unfolding digit_at
digit-least t i e = digit_low (get_or t i 0) e

run_more : (t : List ℕ) (i : ℕ) → digit_at t i ≡ true → digits_of (drop i t) ≡ get_or t i 0 ∷ digits_of (drop (suc i) t)
unfolding digit_at
run_more [] i e = cc
run_more (c ∷ t) zero e = rw e
run_more (c ∷ t) (suc i) e = run_more t i e

run-go : (t : List ℕ) (i : ℕ) → digit_at t i ≡ true → digits_of (drop i t) ≡ get_or t i 0 ∷ digits_of (drop (i + 1) t)
run-go t i e = rw (add-one i) (run_more t i e)

pub run-stop : (t : List ℕ) (i : ℕ) → digit_at t i ≡ false → digits_of (drop i t) ≡ []
unfolding digit_at
run-stop [] zero e = refl
run-stop [] (suc i) e = refl
run-stop (c ∷ t) zero e = rw e
run-stop (c ∷ t) (suc i) e = run-stop t i e

zero-digit : (t : List ℕ) (i : ℕ) → get_or t i 0 ≡ 48 → digit_at t i ≡ true
unfolding digit_at
zero-digit t i e = rw e

-- ---- digits behind a number
pub spelled-done : (v : ℕ) (t : List ℕ) (i : ℕ) → digit_at t i ≡ false → v < 2 ^ 64 → spelled_at v t i ≡ Some (v, i)
unfolding spelled_at
spelled-done v t i e h = rw (run-stop t i e, lt-ltb v (2 ^ 64) h, add-zero i)

pub spelled_step : (v : ℕ) (t : List ℕ) (i : ℕ) → digit_at t i ≡ true → spelled_at v t i ≡ spelled_at (v * 10 + (get_or t i 0 - 48)) t (i + 1)
unfolding spelled_at
spelled_step v t i e =
    rw (run-go t i e)
    (ap (λ (k : ℕ). bounded (Some (spelled (v * 10 + (get_or t i 0 - 48)) (digits_of (drop (i + 1) t)))) k) (omega arith))

-- digits behind v make it no less
spelled_grows : (v : ℕ) (cs : List ℕ) → v ≤ spelled v cs
spelled_grows v [] = omega arith
spelled_grows v (c ∷ cs) = omega (arith, spelled_grows (v * 10 + (c - 48)) cs)

pub spelled-over : (v : ℕ) (t : List ℕ) (i : ℕ) → 2 ^ 64 ≤ v → spelled_at v t i ≡ None
unfolding spelled_at
spelled-over v t i h = rw (le-ltb (spelled v (digits_of (drop i t))) (2 ^ 64) (omega (arith, spelled_grows v (digits_of (drop i t)))))

-- ---- numerals
pub natural-none : (t : List ℕ) (i : ℕ) → digit_at t i ≡ false → natural_at t i ≡ None
unfolding natural_at
natural-none t i e = rw (run-stop t i e)

pub natural-zero : (t : List ℕ) (i : ℕ) → get_or t i 0 ≡ 48 → digit_at t (i + 1) ≡ false → natural_at t i ≡ Some (0, i + 1)
unfolding natural_at
natural-zero t i z f = rw (run-go t i (zero-digit t i z), run-stop t (i + 1) f, z)

pub natural-zeros : (t : List ℕ) (i : ℕ) → get_or t i 0 ≡ 48 → digit_at t (i + 1) ≡ true → natural_at t i ≡ None
unfolding natural_at
natural-zeros t i z f = rw (run-go t i (zero-digit t i z), run-go t (i + 1) f, z)

pub natural-lead : (c : ℕ) (cs : List ℕ) → (c ≡ 48 → ⊥) → natural (c ∷ cs) ≡ Some (spelled 0 (c ∷ cs))
natural-lead c [] h = ap Some (omega arith)
natural-lead c (d ∷ cs) h = rw (ne_eqb c 48 h)

pub natural-digits : (t : List ℕ) (i : ℕ) → digit_at t i ≡ true → (get_or t i 0 ≡ 48 → ⊥) → natural_at t i ≡ spelled_at 0 t i
unfolding natural_at spelled_at
natural-digits t i e z = rw (run-go t i e, natural-lead (get_or t i 0) (digits_of (drop (i + 1) t)) z)

-- ---- integers
pub sign-in : (t : List ℕ) (i : ℕ) → get_or t i 0 ≡ 45 → i < length t
sign-in [] i e = absurd (omega arith)
sign-in (c ∷ t) zero e = omega arith
sign-in (c ∷ t) (suc i) e = omega (arith, sign-in t i e)

pub number-minus : (t : List ℕ) (i : ℕ) → get_or t i 0 ≡ 45 → number_at t i ≡ negative (natural_at t (i + 1))
unfolding number_at
number-minus t i e = rw (eq-eqb (get_or t i 0) 45 e)

pub number-plus : (t : List ℕ) (i : ℕ) → (get_or t i 0 ≡ 45 → ⊥) → number_at t i ≡ positive (natural_at t i)
unfolding number_at
number-plus t i e = rw (ne_eqb (get_or t i 0) 45 e)

-- a size n, of which the sign is known: n is 0, too large, or fits
pub negative-over : (n next : ℕ) → 2 ^ 63 < n → negative (Some (n, next)) ≡ None
negative-over zero next h = refl
negative-over (suc n) next h = rw (le-ltb n (2 ^ 63) (omega arith))

pub negative_fits : (n next : ℕ) → (n ≡ 0 → ⊥) → n ≤ 2 ^ 63 → negative (Some (n, next)) ≡ Some (negsuc (n - 1), next)
negative_fits zero next h k = absurd (h refl)
negative_fits (suc n) next h k = rw (lt-ltb n (2 ^ 63) (omega arith)) (ap (λ (m : ℕ). Some (negsuc m, next)) (omega arith))

pub positive-fits : (n next : ℕ) → n < 2 ^ 63 → positive (Some (n, next)) ≡ Some (pos n, next)
positive-fits n next h = rw (lt-ltb n (2 ^ 63) h)
