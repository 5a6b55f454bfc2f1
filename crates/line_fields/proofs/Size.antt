-- A line has at most 15,513 bytes. Assumes nothing.
use mathlib.Core.Path.{◌≡◌, refl, ap, ◌∙◌}
use mathlib.Core.Bool.{Bool, true, false, cond}
use mathlib.Core.List.{List, [], ◌∷◌, ◌++◌}
use Prim.Native.Nat.{ℕ, zero, suc, ◌+◌, ◌*◌, ◌^◌, ◌≤◌, ◌<◌}
use native.Mathlib.Nat.{add-zero, zero-add, suc-add}
use native.Mathlib.Omega.{arith}
use lib.Dec.{ltb}
use lib.ListN.{length, length-append}
use borrow.Author.Tests.{le-leb, ltb-true}
use Rattle.sizes.specs.Sizes.{fifo_capacity}
use Rattle.num.proofs.Choice.{cond-by}
use Rattle.decimal.specs.Written.{decimal}
use Rattle.decimal.proofs.Writing.{width-below, sample-width}
use Rattle.line_fields.specs.Table.{is_sample, sample_of_number, most_of}
use Rattle.line_fields.specs.Text.{field_text, part_text, parts_text, line_text}
use Rattle.line_fields.proofs.Ranges.{other-sample}
use Rattle.line_fields.proofs.Putting.{text-sample, text-natural, first_part, later-part, sample-fits}
use Rattle.line_fields.proofs.Good.{Within, ahead, behind}
use Rattle.line_fields.proofs.Trip.{most-below}

-- the digits of a number that has at most k + 1 of them
unfoldable places : ℕ → ℕ → ℕ
places zero m = 1
places (suc k) m = cond (ltb m (10 ^ suc k)) (places k m) (suc (suc k))

digits-most : (k n m : ℕ) → n ≤ m → m < 10 ^ suc k → length (decimal n) ≤ places k m
unfolding places
digits-most zero n m h l = width-below 0 n (omega arith)
digits-most (suc k) n m h l =
    cond-by (λ (d : ℕ). length (decimal n) ≤ d) (ltb m (10 ^ suc k)) (places k m) (suc (suc k)) (λ e. digits-most k n m h (ltb-true m (10 ^ suc k) e)) (λ e. width-below (suc k) n (omega arith))

-- the most bytes of field k's numeral: six of a sample, else the digits of its greatest number
unfoldable widest : Bool → ℕ → ℕ
widest fifo k = cond (is_sample k) 6 (places 19 (most_of fifo k))

-- of n fields from field k on, each with a comma
unfoldable widths : Bool → ℕ → ℕ → ℕ
widths fifo k zero = 0
widths fifo k (suc n) = suc (widest fifo k) + widths fifo (suc k) n

field-size : (fifo : Bool) (k n : ℕ) → n ≤ most_of fifo k → length (field_text k n) ≤ widest fifo k
unfolding widest
field-size fifo k n h = go (is_sample k) refl
  where
    go : (b : Bool) → is_sample k ≡ b → length (field_text k n) ≤ cond (is_sample k) 6 (places 19 (most_of fifo k))
    go true e = rw (text-sample k n e, e) (sample-width (sample_of_number n) (sample-fits n))
    go false e = rw (text-natural k n e, e) (digits-most 19 n (most_of fifo k) h (omega (arith, most-below fifo k)))

parts-size : (fifo : Bool) (k : ℕ) (ns : List ℕ) → Within fifo (suc k) ns → length (parts_text (suc k) ns) ≤ widths fifo (suc k) (length ns)
unfolding parts_text widths
parts-size fifo k [] w = omega arith
parts-size fifo k (n ∷ ns) w =
    let K = suc k in
    let part : length (part_text K n) ≡ suc (length (field_text K n)) = ap length (later-part K n (λ e. omega arith)) in
    omega (arith, length-append (part_text K n) (parts_text (suc K) ns), part, field-size fifo K n (ahead fifo K n ns w), parts-size fifo K ns (behind fifo K n ns w))

-- the first field has no comma, and the line has its byte 10
line-size : (fifo : Bool) (n : ℕ) (ns : List ℕ) → Within fifo 0 (n ∷ ns) → length (line_text (n ∷ ns)) ≤ widths fifo 0 (length (n ∷ ns))
unfolding line_text parts_text widths
line-size fifo n ns w =
    let A = part_text 0 n in
    let B = parts_text 1 ns in
    let part : length A ≡ length (field_text 0 n) = ap length (first_part 0 n refl) in
    omega (arith, length-append (A ++ B) (10 ∷ []), length-append A B, part, field-size fifo 0 n (ahead fifo 0 n ns w), parts-size fifo 0 ns (behind fifo 0 n ns w))

-- ---- all fields
widths-add : (fifo : Bool) (k n m : ℕ) → widths fifo k (n + m) ≡ widths fifo k n + widths fifo (k + n) m
unfolding widths
widths-add fifo k zero m = rw (add-zero k, zero-add m, zero-add (widths fifo k m))
widths-add fifo k (suc n) m = rw (suc-add n m) (omega (arith, widths-add fifo (suc k) n m ∙ ap (λ (j : ℕ). widths fifo (suc k) n + widths fifo j m) (move k n)))
  where
    move : (k n : ℕ) → suc k + n ≡ k + suc n
    move k n = omega arith

widths-samples : (fifo : Bool) (k n : ℕ) → 282 ≤ k → widths fifo k n ≡ 7 * n
unfolding widths widest
widths-samples fifo k zero h = omega arith
widths-samples fifo k (suc n) h =
    rw (other-sample k (λ e. omega arith) (λ e. omega arith), le-leb 282 k h) (omega (arith, widths-samples fifo (suc k) n (omega arith)))

widths-fixed : (fifo : Bool) → widths fifo 0 282 ≡ 1177
unfolding widths widest places is_sample most_of
widths-fixed true = refl
widths-fixed false = refl

-- 281 fields, the count and at most 2,048 samples
pub line-most : (fifo : Bool) (xs : List ℕ) (n : ℕ) (ys : List ℕ) → length xs ≡ 281 → length ys ≡ n → n ≤ fifo_capacity → Within fifo 0 (xs ++ (n ∷ ys)) → length (line_text (xs ++ (n ∷ ys))) ≤ 15513
line-most fifo [] n ys l m h w = absurd (omega arith)
line-most fifo (x ∷ xs) n ys l m h w =
    let all : length ((x ∷ xs) ++ (n ∷ ys)) ≡ 282 + n = length-append (x ∷ xs) (n ∷ ys) ∙ omega arith in
    let sum : widths fifo 0 (282 + n) ≡ 1177 + 7 * n = widths-add fifo 0 282 n ∙ omega (arith, widths-fixed fifo, widths-samples fifo 282 n (omega arith)) in
    omega (arith, line-size fifo x (xs ++ (n ∷ ys)) w, ap (widths fifo 0) all ∙ sum)
