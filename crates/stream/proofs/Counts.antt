-- The numbers of a file: its fragments, its length, its loop sample. Assumes nothing.
use Rattle.std.proofs.Common.{◌≡◌, ℕ, ◌+◌, ◌-◌, ◌*◌, ◌/◌, ◌%◌, ◌^◌, ◌<◌, ◌≤◌, Bool, true, false, cond, eqb, ltb, sym, refl, ap, ◌∙◌, subst, mul-le-mul_left, div-add-mod', div-mul-le_self, arith, ltb-true, eq-eqb, ne_eqb, eqb-true}
use native.Mathlib.Decide.{dec_le}
use native.Mathlib.Nat.{mul-mod_left, eq_of_mul-eq-mul_right}
use borrow.Author.Tests.{eqb-false}
use Rattle.num.proofs.Choice.{never}
use Rattle.sqv4.specs.Files.{frame_count_of}
use Rattle.stream.specs.Accepted.{both, loop_fits}
use Rattle.stream.proofs.Fragments.{first_below}

-- ---- and
pub both_true : (a b : Bool) → both a b ≡ true → (a ≡ true) × (b ≡ true)
both_true true b e = (refl, e)
both_true false b e = never (sym e)

pub both_is : (a b : Bool) → a ≡ true → b ≡ true → both a b ≡ true
both_is a b e f = rw (e, f)

-- ---- the fragments of n samples
pub by_per : (per : ℕ) → 63 ≤ per → per ≤ 64 → (P : ℕ → Type 0) → P 63 → P 64 → P per
by_per per low high P a b = elim (dec_le 64 per) [ yes h ↦ subst P (omega arith) b | no h ↦ subst P (omega arith) a ]

module _ (per n : ℕ) (low : 63 ≤ per) (high : per ≤ 64) where
  pub count-whole : n % per ≡ 0 → n / per ≡ frame_count_of per n
  count-whole = by_per per low high (λ (p : ℕ). n % p ≡ 0 → n / p ≡ frame_count_of p n) (λ e. omega arith) (λ e. omega arith)

  pub count-more : (n % per ≡ 0 → ⊥) → n / per + 1 ≡ frame_count_of per n
  count-more = by_per per low high (λ (p : ℕ). (n % p ≡ 0 → ⊥) → n / p + 1 ≡ frame_count_of p n) (λ e. omega arith) (λ e. omega arith)

  pub count_small : n < 2 ^ 64 → n / per + 1 < 2 ^ 64
  count_small h = omega (arith, div-mul-le_self n per, mul-le-mul_left (n / per) low)

-- ---- the file length that they imply
module _ (size frames length : ℕ) where
  pub length-short : length < 16 → eqb (frames * size + 16) length ≡ false
  length-short h = ne_eqb (frames * size + 16) length (λ e. no e)
    where
      no : frames * size + 16 ≡ length → ⊥
      no e = omega arith

  pub length-parted : ((length - 16) % size ≡ 0 → ⊥) → eqb (frames * size + 16) length ≡ false
  length-parted h = ne_eqb (frames * size + 16) length (λ e. h (ap (λ (x : ℕ). x % size) (rest e) ∙ mul-mod_left frames size))
    where
      rest : frames * size + 16 ≡ length → length - 16 ≡ frames * size
      rest e = omega arith

  pub length-is : 0 < size → 16 ≤ length → (length - 16) % size ≡ 0 → eqb ((length - 16) / size) frames ≡ eqb (frames * size + 16) length
  length-is p l m = go (eqb ((length - 16) / size) frames) refl
    where
      whole : (length - 16) / size * size ≡ length - 16
      whole = omega (arith, div-add-mod' (length - 16) size)

      same : (length - 16) / size ≡ frames → frames * size + 16 ≡ length
      same e = omega (arith, whole, ap (λ (x : ℕ). x * size) e)

      back : frames * size + 16 ≡ length → (length - 16) / size ≡ frames
      back e = eq_of_mul-eq-mul_right size p ((length - 16) / size) frames (omega (arith, whole))

      go : (b : Bool) → eqb ((length - 16) / size) frames ≡ b → b ≡ eqb (frames * size + 16) length
      go true e = sym (eq-eqb (frames * size + 16) length (same (eqb-true ((length - 16) / size) frames e)))
      go false e = sym (ne_eqb (frames * size + 16) length (λ q. eqb-false ((length - 16) / size) frames e (back q)))

-- ---- the loop sample is one of the file's
pub loop-below : (again per n : ℕ) → 0 < per → loop_fits again per (frame_count_of per n) ≡ true → 0 < n → again < n
unfolding loop_fits
loop-below again per n p e h = go (eqb again 0) refl (eqb (again % per) 0) refl (ltb (again / per) (frame_count_of per n)) refl e
  where
    go : (a : Bool) → eqb again 0 ≡ a → (b : Bool) → eqb (again % per) 0 ≡ b → (c : Bool) → ltb (again / per) (frame_count_of per n) ≡ c → cond a true (both b c) ≡ true → again < n
    go true x b y c z q = omega (arith, eqb-true again 0 x)
    go false x true y true z q = omega (arith, first_below (again / per) per n p (ltb-true (again / per) (frame_count_of per n) z), div-add-mod' again per, eqb-true (again % per) 0 y)
    go false x true y false z q = never (sym q)
    go false x false y c z q = never (sym q)
