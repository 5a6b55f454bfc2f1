-- The queue's ring: its places, and the queue as a list, oldest first. Assumes nothing.
use mathlib.Core.Path.{◌≡◌, refl, sym, ap, ap₂, ◌∙◌}
use mathlib.Core.Bool.{Bool, true, false, cond}
use mathlib.Core.List.{List, [], ◌∷◌, ◌++◌}
use Prim.Native.Nat.{ℕ, zero, suc, ◌+◌, ◌-◌, ◌%◌, ◌≤◌, ◌<◌}
use native.Mathlib.Nat.{add-zero, mod-mod, suc-ne-zero}
use native.Mathlib.Omega.{arith}
use lib.Bits.{bit_and, and_mask}
use lib.Dec.{eqb, ltb}
use lib.IntN.{ℤ, pos}
use lib.ListN.{length, take, drop, set, get_or, length-set}
use lib.Seq.{get_or-set_same, get_or-set_other, drop-cons}
use borrow.Author.Tests.{ltb-true, ne_eqb}
use Rattle.sizes.specs.Sizes.{fifo_capacity}
use Rattle.num.proofs.Choice.{cond-by}
use Rattle.registers.specs.Queue.{place, set_count, set_hold, set_sub, pushed, pushed_entries, popped, advanced, ticked, queued, plain_queue_of}
use Rattle.registers.specs.PlainQueue.{PlainQueue, plain_pushed, plain_popped, plain_hold, plain_sub, plain_advanced, plain_ticked}
use Rattle.registers.specs.declared.Fifo.{Fifo}

-- the place after n more, by masks
pub ring-place : (h n : ℕ) → bit_and (bit_and h 2047 + n) 2047 ≡ (h + n) % fifo_capacity
ring-place h n = ap (λ (x : ℕ). bit_and (x + n) 2047) (and_mask h 11) ∙ and_mask (h % fifo_capacity + n) 11 ∙ turn h n
  where
    turn : (h n : ℕ) → (h % fifo_capacity + n) % fifo_capacity ≡ (h + n) % fifo_capacity
    turn h n = omega arith

-- ---- the list

pub length-queued : (q : List ℤ) (h n : ℕ) → length (queued q h n) ≡ n
unfolding queued
length-queued q h zero = refl
length-queued q h (suc n) = ap suc (length-queued q (h + 1) n)

-- one more is at the end
queued-last : (q : List ℤ) (h n : ℕ) → queued q h (suc n) ≡ queued q h n ++ (get_or q ((h + n) % fifo_capacity) (pos 0) ∷ [])
unfolding queued
queued-last q h zero = rw (add-zero h)
queued-last q h (suc n) = ap (λ (l : List ℤ). get_or q (h % fifo_capacity) (pos 0) ∷ l) (queued-last q (h + 1) n ∙ ap (λ (k : ℕ). queued q (h + 1) n ++ (get_or q (k % fifo_capacity) (pos 0) ∷ [])) (more h n))
  where
    more : (h n : ℕ) → h + 1 + n ≡ h + suc n
    more h n = omega arith

-- it begins at a place of the ring
pub queued-turn : (q : List ℤ) (a b n : ℕ) → a % fifo_capacity ≡ b % fifo_capacity → queued q a n ≡ queued q b n
unfolding queued
queued-turn q a b zero e = refl
queued-turn q a b (suc n) e = ap₂ (λ (i : ℕ) (l : List ℤ). get_or q i (pos 0) ∷ l) e (queued-turn q (a + 1) (b + 1) n (next a b e))
  where
    next : (a b : ℕ) → a % fifo_capacity ≡ b % fifo_capacity → (a + 1) % fifo_capacity ≡ (b + 1) % fifo_capacity
    next a b e = omega arith

-- a store at another place of the ring leaves it
queued-set : (q : List ℤ) (x : ℤ) (i h n : ℕ) → ((k : ℕ) → k < n → (h + k) % fifo_capacity ≡ i → ⊥) → queued (set q i x) h n ≡ queued q h n
unfolding queued
queued-set q x i h zero out = refl
queued-set q x i h (suc n) out =
    ap₂ (λ (y : ℤ) (l : List ℤ). y ∷ l)
    (get_or-set_other q i (h % fifo_capacity) x (pos 0) (λ e. out 0 (first n) (here h i e)))
    (queued-set q x i (h + 1) n (λ k l e. out (suc k) (more k n l) (there h k i e)))
  where
    first : (n : ℕ) → 0 < suc n
    first n = omega arith

    here : (h i : ℕ) → h % fifo_capacity ≡ i → (h + 0) % fifo_capacity ≡ i
    here h i e = omega arith

    more : (k n : ℕ) → k < n → suc k < suc n
    more k n l = omega arith

    there : (h k i : ℕ) → (h + 1 + k) % fifo_capacity ≡ i → (h + suc k) % fifo_capacity ≡ i
    there h k i e = omega arith

-- before the ring's end it is a part of the entries
pub queued-part : (q : List ℤ) (h n : ℕ) → h + n ≤ fifo_capacity → h + n ≤ length q → queued q h n ≡ take n (drop h q)
unfolding queued
queued-part q h zero l m = refl
queued-part q h (suc n) l m =
    ap₂ (λ (i : ℕ) (t : List ℤ). get_or q i (pos 0) ∷ t) (low h n l) (queued-part q (h + 1) n (omega arith) (omega arith) ∙ ap (λ (k : ℕ). take n (drop k q)) (up h))
    ∙ sym (ap (take (suc n)) (drop-cons q h (pos 0) (omega arith)))
  where
    low : (h n : ℕ) → h + suc n ≤ fifo_capacity → h % fifo_capacity ≡ h
    low h n l = omega arith

    up : (h : ℕ) → h + 1 ≡ suc h
    up h = omega arith

-- ---- push

pub length-pushed : (f : Fifo) (q : List ℤ) (x : ℤ) → length (pushed_entries f q x) ≡ length q
unfolding pushed_entries
length-pushed f q x = cond-by (λ (l : List ℤ). length l ≡ length q) (ltb f.count fifo_capacity) (set q (place f) x) q (λ e. simp length-set) (λ e. refl)

-- other entries are untouched
pub push-other : (f : Fifo) (q : List ℤ) (x d : ℤ) (i : ℕ) → (i ≡ place f → ⊥) → get_or (pushed_entries f q x) i d ≡ get_or q i d
unfolding pushed_entries
push-other f q x d i n =
    cond-by (λ (l : List ℤ). get_or l i d ≡ get_or q i d) (ltb f.count fifo_capacity) (set q (place f) x) q
    (λ e. get_or-set_other q (place f) i x d n) (λ e. refl)

module _ (f : Fifo) (q : List ℤ) (x : ℤ) (l : length q ≡ fifo_capacity) where
  added : f.count < fifo_capacity → queued (set q (place f) x) f.head (f.count + 1) ≡ queued q f.head f.count ++ (x ∷ [])
  added h =
      ap (queued (set q (place f) x) f.head) (up f.count) ∙ queued-last (set q (place f) x) f.head f.count
      ∙ ap₂ (λ (t : List ℤ) (y : ℤ). t ++ (y ∷ [])) (queued-set q x (place f) f.head f.count (apart f.head f.count h)) (get_or-set_same q (place f) x (pos 0) (omega arith))
    where
      up : (n : ℕ) → n + 1 ≡ suc n
      up n = omega arith

      apart : (h n : ℕ) → n < fifo_capacity → (k : ℕ) → k < n → (h + k) % fifo_capacity ≡ (h + n) % fifo_capacity → ⊥
      apart h n m k l e = omega arith

  -- the sample is at the end of the list, unless that holds 2,048
  pub line-pushed : plain_queue_of (pushed_entries f q x) (pushed f) ≡ plain_pushed (plain_queue_of q f) x
  unfolding pushed pushed_entries plain_pushed
  line-pushed = rw (length-queued q f.head f.count) (at (ltb f.count fifo_capacity) (λ e. ltb-true f.count fifo_capacity e))
    where
      at : (t : Bool) → (t ≡ true → f.count < fifo_capacity)
          → ◌≡◌ {A = PlainQueue} (plain_queue_of (cond t (set q (place f) x) q) (cond t (set_count f (f.count + 1)) f))
          (record { samples = cond t (queued q f.head f.count ++ (x ∷ [])) (queued q f.head f.count); held = f.held; hold = f.hold; sub = f.sub; latch = f.latch })
      at true h = ap (λ (t : List ℤ). record { samples = t; held = f.held; hold = f.hold; sub = f.sub; latch = f.latch }) (added (h refl))
      at false h = refl

-- ---- pop: the list's first is taken and held, if there is one

pop-at : (q : List ℤ) (frequency h n : ℕ) (held : ℤ) (hold sub latch : ℕ)
    → let f : Fifo = record { head = h; count = n; held = held; hold = hold; sub = sub; latch = latch } in
    plain_queue_of q (popped f q frequency) ≡ plain_popped (plain_queue_of q f) frequency
unfolding popped plain_popped queued
pop-at q frequency h zero held hold sub latch = refl
pop-at q frequency h (suc n) held hold sub latch =
    rw (ne_eqb (suc n) 0 (suc-ne-zero n))
    (ap (λ (l : List ℤ). record { samples = l; held = get_or q (h % fifo_capacity) (pos 0); hold = frequency; sub = sub; latch = latch }) (ap (queued q ((h + 1) % fifo_capacity)) (less n) ∙ queued-turn q ((h + 1) % fifo_capacity) (h + 1) n (mod-mod (h + 1) fifo_capacity)))
  where
    less : (n : ℕ) → suc n - 1 ≡ n
    less n = omega arith

module _ (f : Fifo) (q : List ℤ) (frequency : ℕ) where
  pub line-popped : plain_queue_of q (popped f q frequency) ≡ plain_popped (plain_queue_of q f) frequency
  line-popped = pop-at q frequency f.head f.count f.held f.hold f.sub f.latch

  pub line-advanced : plain_queue_of q (advanced f q frequency) ≡ plain_advanced (plain_queue_of q f) frequency
  unfolding advanced plain_advanced
  line-advanced = at (eqb f.hold 0)
    where
      at : (t : Bool) → plain_queue_of q (cond t (popped f q frequency) (set_hold f (f.hold - 1))) ≡ cond t (plain_popped (plain_queue_of q f) frequency) (plain_hold (plain_queue_of q f) (f.hold - 1))
      at true = line-popped
      at false = refl

  pub line-ticked : plain_queue_of q (ticked f q frequency) ≡ plain_ticked (plain_queue_of q f) frequency
  unfolding ticked plain_ticked
  line-ticked = at (eqb f.sub 0)
    where
      at : (t : Bool) → plain_queue_of q (set_sub (cond t (advanced f q frequency) f) ((f.sub + 1) % 4)) ≡ plain_sub (cond t (plain_advanced (plain_queue_of q f) frequency) (plain_queue_of q f)) ((f.sub + 1) % 4)
      at true = ap (λ (p : PlainQueue). plain_sub p ((f.sub + 1) % 4)) line-advanced
      at false = refl
