-- The numbers of a line that is read: each is in its field's range, and there are no more than a line can have. Assumes nothing.
use mathlib.Core.Path.{◌≡◌, refl, sym, ap, subst}
use mathlib.Core.Bool.{Bool, true, false}
use mathlib.Core.List.{List, [], ◌∷◌, ◌++◌}
use Prim.Native.Nat.{ℕ, zero, suc, ◌+◌, ◌≤◌}
use native.Mathlib.Nat.{add-zero}
use native.Mathlib.Omega.{arith}
use lib.ListN.{length, get_or, length-append}
use Rattle.sizes.specs.Sizes.{fifo_capacity}
use Rattle.line_fields.specs.Table.{most_of}
use Rattle.line_fields.specs.Reading.{PartsTaken, got, wrong, onto, and_then, part_at, parts_at, line, malformed, closed_at, follows, line_ended, queue_part_at, with_queue, read_line, Part}
use Rattle.line_fields.proofs.Bounds.{part-range, count-range}
use Rattle.std.specs.Prelude.{Ok, Err}
use Rattle.line_fields.specs.declared.FieldError.TheVariants.{Malformed}

-- each number is in the range of its field, the first of which is field k
abbrev pub Within : Bool → ℕ → List ℕ → Type 0
Within fifo k ns = (i : ℕ) → get_or ns i 0 ≤ most_of fifo (k + i)

pub record Good (fifo : Bool) (ns : List ℕ) : Type 0 where
  pub size : length ns ≤ 2330
  pub within : Within fifo 0 ns

record Sized (fifo : Bool) (k n : ℕ) (ns : List ℕ) : Type 0 where
  size : length ns ≡ n
  within : Within fifo k ns

abbrev Fit : Bool → ℕ → ℕ → PartsTaken → Type 0
Fit fifo k n (got ns next) = Sized fifo k n ns
Fit fifo k n (wrong ns field) = Unit

move : (k i : ℕ) → suc k + i ≡ k + suc i
move k i = omega arith

more : (fifo : Bool) (k x : ℕ) (ns : List ℕ) → x ≤ most_of fifo k → Within fifo (suc k) ns → Within fifo k (x ∷ ns)
more fifo k x ns h w zero = rw (add-zero k) h
more fifo k x ns h w (suc i) = subst (λ (j : ℕ). get_or ns i 0 ≤ most_of fifo j) (move k i) (w i)

pub ahead : (fifo : Bool) (k x : ℕ) (ns : List ℕ) → Within fifo k (x ∷ ns) → x ≤ most_of fifo k
ahead fifo k x ns w = subst (λ (j : ℕ). x ≤ most_of fifo j) (add-zero k) (w zero)

pub behind : (fifo : Bool) (k x : ℕ) (ns : List ℕ) → Within fifo k (x ∷ ns) → Within fifo (suc k) ns
behind fifo k x ns w i = subst (λ (j : ℕ). get_or ns i 0 ≤ most_of fifo j) (sym (move k i)) (w (suc i))

-- the same, number by number
abbrev pub Each : Bool → ℕ → List ℕ → Type 0
Each fifo k [] = Unit
Each fifo k (n ∷ ns) = (n ≤ most_of fifo k) × Each fifo (suc k) ns

pub each_within : (fifo : Bool) (k : ℕ) (ns : List ℕ) → Each fifo k ns → Within fifo k ns
each_within fifo k [] h i = omega arith
each_within fifo k (n ∷ ns) h i = more fifo k n ns h.0 (each_within fifo (suc k) ns h.1) i

fit-onto : (fifo : Bool) (k n x : ℕ) (t : PartsTaken) → x ≤ most_of fifo k → Fit fifo (suc k) n t → Fit fifo k (suc n) (onto x t)
fit-onto fifo k n x (got ns next) h f = record { size = ap suc f.size; within = more fifo k x ns h f.within }
fit-onto fifo k n x (wrong ns field) h f = tt

parts-fit : (fifo : Bool) (text : List ℕ) (n k at : ℕ) → Fit fifo k n (parts_at fifo text n k at)
unfolding parts_at
parts-fit fifo text zero k at = record { size = refl; within = λ i. omega arith }
parts-fit fifo text (suc n) k at = go (part_at fifo k text at) refl (parts-fit fifo text n (suc k))
  where
    go : (p : Part) → part_at fifo k text at ≡ p → ((next : ℕ) → Fit fifo (suc k) n (parts_at fifo text n (suc k) next)) → Fit fifo k (suc n) (and_then p (λ x. parts_at fifo text n (suc k)))
    go (Ok (x, next)) e ih = fit-onto fifo k n x (parts_at fifo text n (suc k) next) (part-range fifo k text at x next e) (ih next)
    go (Err (Malformed field)) e ih = tt

-- ---- the count and the samples
record Few (fifo : Bool) (ns : List ℕ) : Type 0 where
  size : length ns ≤ 2049
  within : Within fifo 281 ns

abbrev FitQueue : Bool → PartsTaken → Type 0
FitQueue fifo (got ns next) = Few fifo ns
FitQueue fifo (wrong ns field) = Unit

few : (fifo : Bool) (n : ℕ) (t : PartsTaken) → n ≤ fifo_capacity → Fit fifo 281 (suc n) t → FitQueue fifo t
few fifo n (got ns next) h f = record { size = omega (arith, f.size); within = f.within }
few fifo n (wrong ns field) h f = tt

queue-fit : (fifo : Bool) (text : List ℕ) (at : ℕ) → FitQueue fifo (queue_part_at fifo text at)
unfolding queue_part_at
queue-fit fifo text at = go (part_at fifo 281 text at) refl
  where
    go : (p : Part) → part_at fifo 281 text at ≡ p → FitQueue fifo (and_then p (λ n. parts_at fifo text n 282))
    go (Ok (n, next)) e = few fifo n (onto n (parts_at fifo text n 282 next)) (count-range fifo text at n next e) (fit-onto fifo 281 n n (parts_at fifo text n 282 next) (part-range fifo 281 text at n next e) (parts-fit fifo text n 282 next))
    go (Err (Malformed field)) e = tt

-- ---- the line
pub both : (fifo : Bool) (k : ℕ) (xs ys : List ℕ) → Within fifo k xs → Within fifo (k + length xs) ys → Within fifo k (xs ++ ys)
both fifo k [] ys v w i = subst (λ (j : ℕ). get_or ys i 0 ≤ most_of fifo (j + i)) (add-zero k) (w i)
both fifo k (x ∷ xs) ys v w zero = v zero
both fifo k (x ∷ xs) ys v w (suc i) =
    subst (λ (j : ℕ). get_or (xs ++ ys) i 0 ≤ most_of fifo j) (move k i)
    (both fifo (suc k) xs ys (behind fifo k x xs v) (λ j. subst (λ (m : ℕ). get_or ys j 0 ≤ most_of fifo (m + j)) (sym (move k (length xs))) (w j)) i)

-- 281 numbers, the count and the samples
pub joined : (fifo : Bool) (xs : List ℕ) (n : ℕ) (ys : List ℕ) → length xs ≡ 281 → Within fifo 0 xs → n ≤ most_of fifo 281 → Within fifo 282 ys → Within fifo 0 (xs ++ (n ∷ ys))
joined fifo xs n ys l u v w = both fifo 0 xs (n ∷ ys) u (subst (λ (m : ℕ). Within fifo m (n ∷ ys)) (from (length xs) l) (more fifo 281 n ys v w))
  where
    from : (n : ℕ) → n ≡ 281 → 281 ≡ 0 + n
    from n e = omega arith

abbrev GoodTaken : Bool → PartsTaken → Type 0
GoodTaken fifo (got ns next) = Good fifo ns
GoodTaken fifo (wrong ns field) = Unit

follow-good : (fifo : Bool) (ns : List ℕ) (t : PartsTaken) → Sized fifo 0 281 ns → FitQueue fifo t → GoodTaken fifo (follows ns t)
follow-good fifo ns (got ms next) s f =
    record {
      size = omega (arith, length-append ns ms, s.size, f.size);
      within = both fifo 0 ns ms s.within (λ i. subst (λ (m : ℕ). get_or ms i 0 ≤ most_of fifo (m + i)) (from (length ns) s.size) (f.within i));
    }
  where
    from : (n : ℕ) → n ≡ 281 → 281 ≡ 0 + n
    from n e = omega arith
follow-good fifo ns (wrong ms field) s f = tt

whole-good : (fifo : Bool) (text : List ℕ) (t : PartsTaken) → Fit fifo 0 281 t → GoodTaken fifo (with_queue fifo text t)
whole-good fifo text (got ns next) f = follow-good fifo ns (queue_part_at fifo text next) f (queue-fit fifo text next)
whole-good fifo text (wrong ns field) f = tt

ended-good : (fifo : Bool) (text : List ℕ) (t : PartsTaken) (ns : List ℕ) → GoodTaken fifo t → line_ended text t ≡ line ns → Good fifo ns
ended-good fifo text (wrong ms field) ns g e = absurd (let q : ◌≡◌ {A = ℕ} 0 1 = cc in omega arith)
ended-good fifo text (got ms next) ns g e = go (closed_at text next) refl
  where
    go : (b : Bool) → closed_at text next ≡ b → Good fifo ns
    go true t = let z : line ms ≡ line ns = rw t at e in let w : ms ≡ ns = cc in subst (Good fifo) w g
    go false t = let z : malformed ms (length ms + 1) ≡ line ns = rw t at e in absurd (let q : ◌≡◌ {A = ℕ} 0 1 = cc in omega arith)

pub read-good : (fifo : Bool) (text ns : List ℕ) → read_line fifo text ≡ line ns → Good fifo ns
unfolding read_line
read-good fifo text ns e = ended-good fifo text (with_queue fifo text (parts_at fifo text 281 0 0)) ns (whole-good fifo text (parts_at fifo text 281 0 0) (parts-fit fifo text 281 0 0)) e
