-- The table of the fields: which are samples, and the greatest number of each. Assumes nothing.
use mathlib.Core.Path.{◌≡◌}
use mathlib.Core.Bool.{Bool, true, false}
use Prim.Native.Nat.{ℕ, ◌≤◌, ◌<◌}
use native.Mathlib.Omega.{arith}
use lib.Dec.{leb, ltb, eqb}
use lib.ListN.{get_or}
use borrow.Author.Tests.{eq-eqb, ne_eqb, lt-ltb, le-ltb}
use Rattle.sizes.specs.Sizes.{fifo_capacity}
use Rattle.num.proofs.Choice.{cond-by}
use Rattle.line_fields.specs.Table.{is_sample, most_of, mosts}

pub other-sample : (k : ℕ) → (k ≡ 19 → ⊥) → (k ≡ 21 → ⊥) → is_sample k ≡ leb 282 k
unfolding is_sample
other-sample k e f = rw (ne_eqb k 19 e, ne_eqb k 21 f)

pub most-fifo : (fifo : Bool) (k : ℕ) → k ≡ 2 → fifo ≡ true → most_of fifo k ≡ 5
unfolding most_of
most-fifo fifo k e f = rw (eq-eqb k 2 e, f)

pub most-plain : (fifo : Bool) (k : ℕ) → k ≡ 2 → fifo ≡ false → most_of fifo k ≡ 4
unfolding most_of
most-plain fifo k e f = rw (eq-eqb k 2 e, f)

pub most-state : (fifo : Bool) (k : ℕ) → (k ≡ 2 → ⊥) → k < 25 → most_of fifo k ≡ get_or mosts k 0
unfolding most_of
most-state fifo k e h = rw (ne_eqb k 2 e, lt-ltb k 25 h)

pub most-byte : (fifo : Bool) (k : ℕ) → 25 ≤ k → k < 281 → most_of fifo k ≡ 255
unfolding most_of
most-byte fifo k h j = rw (ne_eqb k 2 (λ e. omega arith), le-ltb k 25 h, lt-ltb k 281 j)

pub most-count : (fifo : Bool) (k : ℕ) → k ≡ 281 → most_of fifo k ≡ fifo_capacity
unfolding most_of
most-count fifo k e = rw (ne_eqb k 2 (λ f. omega arith), le-ltb k 25 (omega arith), le-ltb k 281 (omega arith), eq-eqb k 281 e)

pub most-sample : (fifo : Bool) (k : ℕ) → 282 ≤ k → most_of fifo k ≡ 65535
unfolding most_of
most-sample fifo k h = rw (ne_eqb k 2 (λ f. omega arith), le-ltb k 25 (omega arith), le-ltb k 281 (omega arith), ne_eqb k 281 (λ e. omega arith))

-- a byte is in range from field 25 on
pub most-on : (fifo : Bool) (k : ℕ) → 25 ≤ k → 255 ≤ most_of fifo k
unfolding most_of
most-on fifo k h =
    rw (ne_eqb k 2 (λ e. omega arith), le-ltb k 25 h)
    (cond-by (λ (m : ℕ). 255 ≤ m) (ltb k 281) 255 _ (λ e. omega arith) (λ e. cond-by (λ (m : ℕ). 255 ≤ m) (eqb k 281) fifo_capacity 65535 (λ f. omega arith) (λ f. omega arith)))
