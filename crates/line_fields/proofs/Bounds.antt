-- What is read is in its field's range. Assumes nothing.
use mathlib.Core.Path.{◌≡◌, refl, sym, ap, ◌∙◌}
use mathlib.Core.Bool.{Bool, true, false}
use mathlib.Core.List.{List}
use Prim.Native.Nat.{ℕ, ◌+◌, ◌≤◌}
use native.Mathlib.Omega.{arith}
use lib.Dec.{leb, eqb}
use lib.IntN.{ℤ, pos, negsuc}
use lib.ListN.{get_or}
use lib.Signed.{lt_z}
use mir.Syntax.{w16}
use mir.Val.{SFits, of_z}
use mir.ValLaws.{of_z_fits}
use borrow.Author.Tests.{leb-true, eqb-true, eqb-false}
use Rattle.sizes.specs.Sizes.{fifo_capacity}
use Rattle.num.proofs.Integers.{fit, one-zero, lt_z-false}
use Rattle.decimal.specs.Read.{natural_at, number_at, Numeral}
use Rattle.line_fields.specs.Table.{is_sample, most_of}
use Rattle.line_fields.specs.Reading.{natural_of, sample_of16, Part, field_at, part_at}
use Rattle.line_fields.proofs.Ranges.{other-sample, most-state, most-sample, most-count}
use Rattle.line_fields.proofs.Taking.{field-sample, field-natural}
use Rattle.std.specs.Prelude.{Some, None, Ok, Err}
use Rattle.line_fields.specs.declared.FieldError.TheVariants.{Malformed}

-- a malformed field is no number
pub other : {A : Type 0} (field n next : ℕ) → ◌≡◌ {A = Part} (Err (Malformed field)) (Ok (n, next)) → A
other field n next e = absurd (let q : ◌≡◌ {A = ℕ} 0 1 = cc in omega arith)

-- the number of a field that is in order
same-number : (m j n next : ℕ) → ◌≡◌ {A = Part} (Ok (m, j)) (Ok (n, next)) → m ≡ n
same-number m j n next e = ap first e
  where
    first : Part → ℕ
    first (Ok p) = p.0
    first (Err e) = m

natural-range : (field most : ℕ) (t : Numeral ℕ) (n next : ℕ) → natural_of field most t ≡ Ok (n, next) → n ≤ most
natural-range field most None n next e = other field n next e
natural-range field most (Some (m, j)) n next e = go (leb m most) refl
  where
    go : (b : Bool) → leb m most ≡ b → n ≤ most
    go true t = let w : m ≡ n = same-number m j n next (rw t at e) in omega (arith, leb-true m most t, w)
    go false t = other field n next (rw t at e)

-- the bits of a sample
pub sixteen : (z : ℤ) → lt_z z (negsuc 32767) ≡ false → lt_z (pos 32767) z ≡ false → SFits w16 z
sixteen z e f = fit w16 z (omega (arith, lt_z-false (pos 32767) z f, one-zero z)) (omega (arith, lt_z-false z (negsuc 32767) e, one-zero z))

pub bits_small : (z : ℤ) → SFits w16 z → of_z w16 z ≤ 65535
bits_small z h = omega (arith, (of_z_fits w16 z h).fits)

sample-range : (field : ℕ) (t : Numeral ℤ) (n next : ℕ) → sample_of16 field t ≡ Ok (n, next) → n ≤ 65535
sample-range field None n next e = other field n next e
sample-range field (Some (z, j)) n next e = go (lt_z z (negsuc 32767)) (lt_z (pos 32767) z) refl refl
  where
    go : (a b : Bool) → lt_z z (negsuc 32767) ≡ a → lt_z (pos 32767) z ≡ b → n ≤ 65535
    go true b p q = other field n next (rw p at e)
    go false true p q = other field n next (rw (p, q) at e)
    go false false p q = let w : of_z w16 z ≡ n = same-number (of_z w16 z) j n next (rw (p, q) at e) in omega (arith, bits_small z (sixteen z p q), w)

pub sample-most : (fifo : Bool) (k : ℕ) → is_sample k ≡ true → most_of fifo k ≡ 65535
sample-most fifo k e = go (eqb k 19) refl
  where
    rest : (b : Bool) → eqb k 21 ≡ b → (k ≡ 19 → ⊥) → most_of fifo k ≡ 65535
    rest true q p = let w : k ≡ 21 = eqb-true k 21 q in rw w (most-state fifo 21 (λ r. omega arith) (omega arith))
    rest false q p = most-sample fifo k (leb-true 282 k (sym (other-sample k p (eqb-false k 21 q)) ∙ e))

    go : (b : Bool) → eqb k 19 ≡ b → most_of fifo k ≡ 65535
    go true p = let w : k ≡ 19 = eqb-true k 19 p in rw w (most-state fifo 19 (λ r. omega arith) (omega arith))
    go false p = rest (eqb k 21) refl (eqb-false k 19 p)

pub field-range : (fifo : Bool) (k : ℕ) (text : List ℕ) (at n next : ℕ) → field_at fifo k text at ≡ Ok (n, next) → n ≤ most_of fifo k
field-range fifo k text at n next e = go (is_sample k) refl
  where
    go : (b : Bool) → is_sample k ≡ b → n ≤ most_of fifo k
    go true s = rw (sample-most fifo k s) (sample-range (k + 1) (number_at text at) n next (sym (field-sample fifo k text at s) ∙ e))
    go false s = natural-range (k + 1) (most_of fifo k) (natural_at text at) n next (sym (field-natural fifo k text at s) ∙ e)

pub part-range : (fifo : Bool) (k : ℕ) (text : List ℕ) (at n next : ℕ) → part_at fifo k text at ≡ Ok (n, next) → n ≤ most_of fifo k
unfolding part_at
part-range fifo k text at n next e = go (eqb k 0) (eqb (get_or text at 0) 44) refl refl
  where
    go : (a b : Bool) → eqb k 0 ≡ a → eqb (get_or text at 0) 44 ≡ b → n ≤ most_of fifo k
    go true b p q = field-range fifo k text at n next (rw p at e)
    go false true p q = field-range fifo k text (at + 1) n next (rw (p, q) at e)
    go false false p q = other _ n next (rw (p, q) at e)

pub count-range : (fifo : Bool) (text : List ℕ) (at n next : ℕ) → part_at fifo 281 text at ≡ Ok (n, next) → n ≤ fifo_capacity
count-range fifo text at n next e = rw (most-count fifo 281 refl) at (part-range fifo 281 text at n next e)
