-- A list put into another, one element after the other. Assumes nothing.
use mathlib.Core.Path.{◌≡◌, refl, sym, ap, ◌∙◌}
use mathlib.Core.List.{List, [], ◌∷◌, map}
use Prim.Native.Nat.{ℕ, zero, suc, ◌+◌, ◌%◌, ◌≤◌, ◌<◌, min}
use native.Mathlib.Nat.{add-zero}
use native.Mathlib.Omega.{arith}
use native.Mathlib.Decide.{dec_le}
use lib.IntN.{ℤ, pos}
use lib.ListN.{length, set, get_or, drop, drop_of_length-le, length-map}
use lib.Seq.{sets, set_out, drop-cons, length-sets}
use mir.Syntax.{w16}
use mir.Val.{of_z}
use Rattle.sizes.specs.Sizes.{fifo_capacity}
use Rattle.line_fields.specs.Table.{sample_of_number}
use Rattle.registers.specs.Queue.{queued}
use Rattle.registers.specs.declared.Fifo.{Fifo}
use Rattle.registers.proofs.Ring.{length-queued, queued-turn}
use Rattle.session_lines.specs.Numbers.{at, entries, table_numbers, queue_numbers, low_byte, table_of, queued_samples}

module _ {A : Type 0} where
  sets-past : (xs l : List A) (i : ℕ) → length l ≤ i → sets l i xs ≡ l
  sets-past [] l i h = refl
  sets-past (x ∷ xs) l i h = rw (set_out l i x h) (sets-past xs l (suc i) (omega arith))

  -- what is left of xs before its element i is put
  pub record Storing (before now : List A) (base : ℕ) (xs : List A) (i : ℕ) : Type 0 where
    pub left : sets now (base + i) (drop i xs) ≡ sets before base xs

  pub start : (l : List A) (base : ℕ) (xs : List A) → Storing l l base xs 0
  start l base xs = record { left = ap (λ (k : ℕ). sets l k xs) (add-zero base) }

  pub next : {before now after : List A} {base : ℕ} {xs : List A} {i : ℕ} (s : Storing before now base xs i) (d x : A) (k : ℕ) → i < length xs → x ≡ get_or xs i d → k ≡ base + i → after ≡ set now k x → Storing before after base xs (i + 1)
  next {before} {now} {after} {base} {xs} {i} s d x k h e f g =
      record {
        left =
            ap (λ (l : List A). sets l (base + (i + 1)) (drop (i + 1) xs)) (g ∙ ap (λ (j : ℕ). set now j x) f ∙ ap (set now (base + i)) e)
            ∙ ap (λ (j : ℕ). sets (set now (base + i) (get_or xs i d)) j (drop (i + 1) xs)) (more base i)
            ∙ ap (λ (j : ℕ). sets (set now (base + i) (get_or xs i d)) (suc (base + i)) (drop j xs)) (one i)
            ∙ ap (sets now (base + i)) (sym (drop-cons xs i d h))
            ∙ s.left;
      }
    where
      more : (base i : ℕ) → base + (i + 1) ≡ suc (base + i)
      more base i = omega arith

      one : (i : ℕ) → i + 1 ≡ suc i
      one i = omega arith

  -- all is put
  pub done : {before now : List A} {base : ℕ} {xs : List A} {i : ℕ} (s : Storing before now base xs i) → length xs ≤ i → now ≡ sets before base xs
  done {before} {now} {base} {xs} {i} s h = ap (sets now (base + i)) (sym (drop_of_length-le xs h)) ∙ s.left

  -- there is no more room
  pub full : {before now : List A} {base : ℕ} {xs : List A} {i : ℕ} (s : Storing before now base xs i) → length now ≤ base + i → now ≡ sets before base xs
  full {before} {now} {base} {xs} {i} s h = sym (sets-past (drop i xs) now (base + i) h) ∙ s.left

  pub same_size : {before now : List A} {base : ℕ} {xs : List A} {i : ℕ} (s : Storing before now base xs i) → length now ≡ length before
  same_size {before} {now} {base} {xs} {i} s = sym (length-sets now (base + i) (drop i xs)) ∙ ap length s.left ∙ length-sets before base xs

  -- as much as there is room for
  pub clipped : {before now : List A} {xs : List A} {i : ℕ} (s : Storing before now 0 xs i) (n end : ℕ) → length xs ≡ n → end ≡ min (length before) n → end ≤ i → now ≡ sets before 0 xs
  clipped {before} {now} {xs} {i} s n end e f g =
      elim (dec_le (length xs) i) [
        | yes h ↦ done s h
        | no h ↦ full s (omega (arith, same_size s))
      ]

-- ---- the elements of the lists that are put
pub nth-map : {A B : Type 0} (g : A → B) (l : List A) (i : ℕ) (d : A) (e : B) → i < length l → get_or (map g l) i e ≡ g (get_or l i d)
nth-map g [] i d e h = absurd (omega arith)
nth-map g (x ∷ l) zero d e h = refl
nth-map g (x ∷ l) (suc i) d e h = nth-map g l i d e (omega arith)

pub size-entries : (f : ℕ → ℕ) (i n : ℕ) → length (entries f i n) ≡ n
unfolding entries
size-entries f i zero = refl
size-entries f i (suc n) = ap suc (size-entries f (suc i) n)

pub nth-entries : (f : ℕ → ℕ) (i n j : ℕ) → j < n → get_or (entries f i n) j 0 ≡ f (i + j)
unfolding entries
nth-entries f i zero j h = absurd (omega arith)
nth-entries f i (suc n) zero h = ap f (sym (add-zero i))
nth-entries f i (suc n) (suc j) h = nth-entries f (suc i) n j (omega arith) ∙ ap f (move i j)
  where
    move : (i j : ℕ) → suc i + j ≡ i + suc j
    move i j = omega arith

pub nth-queued : (q : List ℤ) (h n j : ℕ) → j < n → get_or (queued q h n) j (pos 0) ≡ get_or q ((h + j) % fifo_capacity) (pos 0)
unfolding queued
nth-queued q h zero j k = absurd (omega arith)
nth-queued q h (suc n) zero k = ap (λ (m : ℕ). get_or q (m % fifo_capacity) (pos 0)) (sym (add-zero h))
nth-queued q h (suc n) (suc j) k = nth-queued q (h + 1) n j (omega arith) ∙ ap (λ (m : ℕ). get_or q (m % fifo_capacity) (pos 0)) (move h j)
  where
    move : (h j : ℕ) → (h + 1) + j ≡ h + suc j
    move h j = omega arith

-- ---- written
pub size-table : (w : List ℕ) → length (table_numbers w) ≡ 256
unfolding table_numbers
size-table w = size-entries (at w) 0 256

pub nth-table : (w : List ℕ) (i : ℕ) → i < 256 → get_or (table_numbers w) i 0 ≡ get_or w i 0
unfolding table_numbers
nth-table w i h = nth-entries (at w) 0 256 i h ∙ ap (λ (k : ℕ). get_or w k 0) (none i)
  where
    none : (i : ℕ) → 0 + i ≡ i
    none i = omega arith

pub size-queue : (q : List ℤ) (h n : ℕ) → length (map (of_z w16) (queued q h n)) ≡ n
size-queue q h n = length-map (queued q h n) (of_z w16) ∙ length-queued q h n

pub nth-queue : (q : List ℤ) (h n j : ℕ) → j < n → get_or (map (of_z w16) (queued q h n)) j 0 ≡ of_z w16 (get_or q ((h + j) % fifo_capacity) (pos 0))
nth-queue q h n j k = nth-map (of_z w16) (queued q h n) j (pos 0) 0 (omega (arith, length-queued q h n)) ∙ ap (of_z w16) (nth-queued q h n j k)

pub queue-put : (f : Fifo) (q : List ℤ) (entry mid after : List ℕ) (n : ℕ) → n ≡ min f.count fifo_capacity → mid ≡ set entry 281 n → after ≡ sets mid 282 (map (of_z w16) (queued q (f.head % fifo_capacity) n)) → after ≡ sets entry 281 (queue_numbers f q)
unfolding queue_numbers
queue-put f q entry mid after n e g h =
    h
    ∙ ap (λ (l : List ℕ). sets l 282 (map (of_z w16) (queued q (f.head % fifo_capacity) n))) g
    ∙ ap (λ (l : List ℤ). sets (set entry 281 n) 282 (map (of_z w16) l)) (queued-turn q (f.head % fifo_capacity) f.head n (again f.head))
    ∙ ap (λ (k : ℕ). sets entry 281 (k ∷ map (of_z w16) (queued q f.head k))) e
  where
    again : (h : ℕ) → h % fifo_capacity % fifo_capacity ≡ h % fifo_capacity
    again h = omega arith

-- ---- read
pub size-read-table : (f : ℕ → ℕ) → length (table_of f) ≡ 256
unfolding table_of
size-read-table f = length-map (entries f 25 256) low_byte ∙ size-entries f 25 256

pub nth-read-table : (f : ℕ → ℕ) (i : ℕ) → i < 256 → get_or (table_of f) i 0 ≡ low_byte (f (25 + i))
unfolding table_of
nth-read-table f i h = nth-map low_byte (entries f 25 256) i 0 0 (omega (arith, size-entries f 25 256)) ∙ ap low_byte (nth-entries f 25 256 i h)

pub size-samples : (f : ℕ → ℕ) (n : ℕ) → length (queued_samples f n) ≡ n
unfolding queued_samples
size-samples f n = length-map (entries f 282 n) sample_of_number ∙ size-entries f 282 n

pub nth-samples : (f : ℕ → ℕ) (n i : ℕ) → i < n → get_or (queued_samples f n) i (pos 0) ≡ sample_of_number (f (282 + i))
unfolding queued_samples
nth-samples f n i h = nth-map sample_of_number (entries f 282 n) i 0 (pos 0) (omega (arith, size-entries f 282 n)) ∙ ap sample_of_number (nth-entries f 282 n i h)
