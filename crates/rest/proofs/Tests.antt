-- Tests: a signed number that is zero by its bits, and every number below n. Assumes nothing.
use mathlib.Core.Path.{◌≡◌, refl, sym, ap, ◌∙◌}
use mathlib.Core.Bool.{Bool, true, false, ◌&&◌}
use mathlib.Core.List.{List, [], ◌∷◌}
use Prim.Native.Nat.{ℕ, zero, suc, ◌+◌, ◌<◌}
use native.Mathlib.Omega.{arith}
use native.Mathlib.Numerals.{add-one}
use lib.Dec.{eqb}
use lib.IntN.{ℤ, nat_abs}
use lib.ListN.{get_or}
use mir.Syntax.{w16}
use mir.Val.{SFits, to_z, of_z}
use borrow.Author.Tests.{eq-eqb, ne_eqb, eqb-true, eqb-false}
use Rattle.num.proofs.Choice.{both, together}
use Rattle.num.proofs.Integers.{back}
use Rattle.registers.proofs.Accepted.{no_size}
use Rattle.rest.specs.Rest.{all_pass_from, all_pass, is_zero, every}

same-zero : (a b : ℕ) → (a ≡ 0 → b ≡ 0) → (b ≡ 0 → a ≡ 0) → eqb a 0 ≡ eqb b 0
same-zero zero b f g = sym (eq-eqb b 0 (f refl))
same-zero (suc a) b f g = ne_eqb (suc a) 0 (λ e. absurd (omega arith)) ∙ sym (ne_eqb b 0 (λ e. absurd (omega (arith, g e))))

pub zero_bits : (z : ℤ) → SFits w16 z → eqb (of_z w16 z) 0 ≡ is_zero z
zero_bits z s = same-zero (of_z w16 z) (nat_abs z) (λ e. ap nat_abs (sym (back w16 z s) ∙ ap (to_z w16) e)) (λ e. ap (of_z w16) (no_size z e))

pub zero-back : (z : ℤ) → SFits w16 z → is_zero (to_z w16 (of_z w16 z)) ≡ is_zero z
zero-back z s = ap is_zero (back w16 z s)

-- ---- all of some tests
from_at : (a : Bool) (l : List Bool) → all_pass_from a l ≡ true → (a ≡ true) × ((i : ℕ) → get_or l i true ≡ true)
from_at a [] e = (e, λ i. refl)
from_at a (b ∷ l) e =
    let r = from_at (a && b) l e in
    ((both a b r.0).0, each (both a b r.0).1 r.1)
  where
    each : b ≡ true → ((i : ℕ) → get_or l i true ≡ true) → (i : ℕ) → get_or (b ∷ l) i true ≡ true
    each f g zero = f
    each f g (suc i) = g i

pub all-at : (l : List Bool) → all_pass l ≡ true → (i : ℕ) → get_or l i true ≡ true
all-at l e = (from_at true l e).1

-- ---- every number below n
pub every-at : (n : ℕ) (f : ℕ → Bool) → every n f ≡ true → (i : ℕ) → i < n → f i ≡ true
unfolding every
every-at zero f e i h = absurd (omega arith)
every-at (suc n) f e i h = last (both (every n f) (f n) e).1 (every-at n f (both (every n f) (f n) e).0 i) (eqb i n) refl
  where
    last : f n ≡ true → (i < n → f i ≡ true) → (t : Bool) → eqb i n ≡ t → f i ≡ true
    last p q true g = ap f (eqb-true i n g) ∙ p
    last p q false g = q (below (eqb-false i n g))
      where
        below : (i ≡ n → ⊥) → i < n
        below d = omega (arith, d)

pub every_of : (n : ℕ) (f : ℕ → Bool) → ((i : ℕ) → i < n → f i ≡ true) → every n f ≡ true
unfolding every
every_of zero f g = refl
every_of (suc n) f g = together (every n f) (f n) (every_of n f (λ i h. g i (omega arith))) (g n (omega arith))

-- eight of them, one after the other
pub eight : (f : ℕ → Bool) {a b c d e g h k : Bool} → a ≡ f 0 → b ≡ f 1 → c ≡ f 2 → d ≡ f 3 → e ≡ f 4 → g ≡ f 5 → h ≡ f 6 → k ≡ f 7 → (((((((a && b) && c) && d) && e) && g) && h) && k) ≡ every 8 f
unfolding every
eight f p q r s t u v w = λ i. ((((((p i && q i) && r i) && s i) && t i) && u i) && v i) && w i

-- one number more, where those that fail are counted
and-true : (a b : Bool) → b ≡ true → a ≡ (a && b)
and-true true b e = sym e
and-true false b e = refl

and-false : (a b : Bool) → b ≡ false → false ≡ (a && b)
and-false true b e = sym e
and-false false b e = refl

module _ (n i : ℕ) (f : ℕ → Bool) (e : eqb n 0 ≡ every i f) where
  pub one_passes : f i ≡ true → eqb n 0 ≡ every (i + 1) f
  unfolding every
  one_passes g = e ∙ and-true (every i f) (f i) g ∙ ap (λ (m : ℕ). every m f) (sym (add-one i))

  pub one-fails : f i ≡ false → eqb (n + 1) 0 ≡ every (i + 1) f
  unfolding every
  one-fails g = ne_eqb (n + 1) 0 (λ z. absurd (omega (arith, z))) ∙ and-false (every i f) (f i) g ∙ ap (λ (m : ℕ). every m f) (sym (add-one i))
