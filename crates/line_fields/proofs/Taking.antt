-- What is read of a line: the equations of the readers' definitions, one for each way that the code goes. Assumes nothing.
use mathlib.Core.Path.{◌≡◌, refl, sym, ap, ◌∙◌}
use mathlib.Core.Bool.{Bool, true, false}
use mathlib.Core.List.{List, [], ◌∷◌, ◌++◌}
use Prim.Native.Nat.{ℕ, zero, suc, ◌+◌, ◌-◌, ◌≤◌, ◌<◌}
use native.Mathlib.Numerals.{add-one}
use native.Mathlib.Omega.{arith}
use lib.Dec.{eqb}
use lib.IntN.{ℤ, pos, negsuc}
use lib.ListN.{length, get_or, set, length-append, get_or-eq_default}
use lib.Seq.{sets}
use lib.Signed.{lt_z}
use mir.Syntax.{w16}
use mir.Val.{of_z}
use borrow.Author.Tests.{eq-eqb, ne_eqb, le-leb, lt-leb}
use Rattle.num.proofs.Choice.{cond-by}
use Rattle.num.proofs.Lists.{sets-append}
use Rattle.decimal.specs.Read.{natural_at, number_at}
use Rattle.line_fields.specs.Table.{is_sample, most_of}
use Rattle.line_fields.specs.Reading.{natural_of, sample_of16, field_at, ends_at, part_at, PartsTaken, got, wrong, onto, and_then, parts_at, ReadLine, malformed, closed_at, follows, line_ended, queue_part_at, with_queue, read_line, numbers_in, parts_of, close_of, queue_fields, fields_of, line_numbers, Part, Fields}
use Rattle.std.specs.Prelude.{Some, Ok, Err}
use Rattle.line_fields.specs.declared.FieldError.{FieldError}
use Rattle.line_fields.specs.declared.FieldError.TheVariants.{Malformed}

-- ---- one numeral
pub natural-in : (field most n next : ℕ) → n ≤ most → natural_of field most (Some (n, next)) ≡ Ok (n, next)
natural-in field most n next h = rw (le-leb n most h)

pub sample_in : (field next : ℕ) (z : ℤ) → lt_z z (negsuc 32767) ≡ false → lt_z (pos 32767) z ≡ false → sample_of16 field (Some (z, next)) ≡ Ok (of_z w16 z, next)
sample_in field next z e f = rw (e, f)

-- ---- where a line ends
pub ends-in : (text : List ℕ) (at : ℕ) → at < length text → ends_at text at ≡ eqb (get_or text at 0) 10
unfolding ends_at
ends-in text at h = rw (lt-leb (length text) at h)

pub ends-out : (text : List ℕ) (at : ℕ) → length text ≤ at → ends_at text at ≡ true
unfolding ends_at
ends-out text at h = rw (le-leb (length text) at h)

pub closed_in : (text : List ℕ) (at : ℕ) → get_or text at 0 ≡ 10 → closed_at text at ≡ eqb (length text) (at + 1)
unfolding closed_at
closed_in text at e = rw (eq-eqb (get_or text at 0) 10 e)

pub closed-other : (text : List ℕ) (at : ℕ) → (get_or text at 0 ≡ 10 → ⊥) → closed_at text at ≡ false
unfolding closed_at
closed-other text at e = rw (ne_eqb (get_or text at 0) 10 e)

pub closed-out : (text : List ℕ) (at : ℕ) → length text ≤ at → closed_at text at ≡ false
closed-out text at h = closed-other text at (λ e. absurd (none (sym (get_or-eq_default text 0 h) ∙ e)))
  where
    none : ◌≡◌ {A = ℕ} 0 10 → ⊥
    none q = omega arith

-- ---- one field
pub field-sample : (fifo : Bool) (k : ℕ) (text : List ℕ) (at : ℕ) → is_sample k ≡ true → field_at fifo k text at ≡ sample_of16 (k + 1) (number_at text at)
unfolding field_at
field-sample fifo k text at e = rw (e, add-one k)

pub field-natural : (fifo : Bool) (k : ℕ) (text : List ℕ) (at : ℕ) → is_sample k ≡ false → field_at fifo k text at ≡ natural_of (k + 1) (most_of fifo k) (natural_at text at)
unfolding field_at
field-natural fifo k text at e = rw (e, add-one k)

pub part-first : (fifo : Bool) (k : ℕ) (text : List ℕ) (at : ℕ) → k ≡ 0 → part_at fifo k text at ≡ field_at fifo k text at
unfolding part_at
part-first fifo k text at e = rw (eq-eqb k 0 e)

pub part-next : (fifo : Bool) (k : ℕ) (text : List ℕ) (at : ℕ) → (k ≡ 0 → ⊥) → get_or text at 0 ≡ 44 → part_at fifo k text at ≡ field_at fifo k text (at + 1)
unfolding part_at
part-next fifo k text at h e = rw (ne_eqb k 0 h, eq-eqb (get_or text at 0) 44 e)

pub part-missing : (fifo : Bool) (k : ℕ) (text : List ℕ) (at : ℕ) → (k ≡ 0 → ⊥) → (get_or text at 0 ≡ 44 → ⊥) → ends_at text at ≡ true → part_at fifo k text at ≡ Err (Malformed (k + 1))
unfolding part_at
part-missing fifo k text at h e f = rw (ne_eqb k 0 h, ne_eqb (get_or text at 0) 44 e, f, add-one k)

pub part-before : (fifo : Bool) (k : ℕ) (text : List ℕ) (at : ℕ) → (k ≡ 0 → ⊥) → (get_or text at 0 ≡ 44 → ⊥) → ends_at text at ≡ false → part_at fifo k text at ≡ Err (Malformed k)
unfolding part_at
part-before fifo k text at h e f = rw (ne_eqb k 0 h, ne_eqb (get_or text at 0) 44 e, f)

-- a comma lies in the text
pub comma-inside : (text : List ℕ) (i : ℕ) → get_or text i 0 ≡ 44 → i < length text
comma-inside [] i e = absurd (let q : ◌≡◌ {A = ℕ} 0 44 = e in omega arith)
comma-inside (c ∷ t) zero e = omega arith
comma-inside (c ∷ t) (suc i) e = omega (arith, comma-inside t i e)

-- ---- fields one behind the other: what is left to take from field k on gives what all of them give
pub record Progress (fifo : Bool) (text : List ℕ) (goal : PartsTaken) (from to : ℕ) (before ns : List ℕ) (end k : ℕ) : Type 0 where
  pub answer : parts_of (parts_at fifo text (to - k) k end) ≡ parts_of goal
  pub stored : sets ns k (numbers_in (parts_at fifo text (to - k) k end)) ≡ sets before from (numbers_in goal)

parts-onto : (n : ℕ) (t : PartsTaken) → parts_of (onto n t) ≡ parts_of t
parts-onto n (got ns next) = refl
parts-onto n (wrong ns field) = refl

numbers-onto : (n : ℕ) (t : PartsTaken) → numbers_in (onto n t) ≡ n ∷ numbers_in t
numbers-onto n (got ns next) = refl
numbers-onto n (wrong ns field) = refl

module _ (fifo : Bool) (text : List ℕ) where
  step : (to k end x next : ℕ) → k < to → part_at fifo k text end ≡ Ok (x, next) → parts_at fifo text (to - k) k end ≡ onto x (parts_at fifo text (to - (k + 1)) (k + 1) next)
  unfolding parts_at
  step to k end x next h e = ap (λ (n : ℕ). parts_at fifo text n k end) (one_less to k h) ∙ rw e (ap (λ (j : ℕ). onto x (parts_at fifo text (to - (k + 1)) j next)) (sym (add-one k)))
    where
      one_less : (to k : ℕ) → k < to → to - k ≡ suc (to - (k + 1))
      one_less to k h = omega arith

  stop : (to k end field : ℕ) → k < to → part_at fifo k text end ≡ Err (Malformed field) → parts_at fifo text (to - k) k end ≡ wrong [] field
  unfolding parts_at
  stop to k end field h e = ap (λ (n : ℕ). parts_at fifo text n k end) (one_less to k h) ∙ rw e refl
    where
      one_less : (to k : ℕ) → k < to → to - k ≡ suc (to - (k + 1))
      one_less to k h = omega arith

  none : (to k end : ℕ) → to ≤ k → parts_at fifo text (to - k) k end ≡ got [] end
  unfolding parts_at
  none to k end h = ap (λ (n : ℕ). parts_at fifo text n k end) (nought to k h)
    where
      nought : (to k : ℕ) → to ≤ k → to - k ≡ 0
      nought to k h = omega arith

  pub next_field : {goal : PartsTaken} {from to : ℕ} {before ns ms : List ℕ} {end k : ℕ} (p : Progress fifo text goal from to before ns end k) (x next : ℕ) → k < to → part_at fifo k text end ≡ Ok (x, next) → ms ≡ set ns k x → Progress fifo text goal from to before ms next (k + 1)
  next_field {goal} {from} {to} {before} {ns} {ms} {end} {k} p x next h e f =
      record {
        answer = sym (ap parts_of (step to k end x next h e) ∙ parts-onto x rest) ∙ p.answer;
        stored =
            ap (λ (l : List ℕ). sets l (k + 1) (numbers_in rest)) f
            ∙ ap (λ (j : ℕ). sets (set ns k x) j (numbers_in rest)) (add-one k)
            ∙ sym (ap (λ (t : PartsTaken). sets ns k (numbers_in t)) (step to k end x next h e) ∙ ap (sets ns k) (numbers-onto x rest))
            ∙ p.stored;
      }
    where
      rest : PartsTaken
      rest = parts_at fifo text (to - (k + 1)) (k + 1) next

  pub wrong-field : {goal : PartsTaken} {from to : ℕ} {before ns : List ℕ} {end k : ℕ} (p : Progress fifo text goal from to before ns end k) (f : FieldError) → k < to → part_at fifo k text end ≡ Err f → (Err f ≡ parts_of goal) × (ns ≡ sets before from (numbers_in goal))
  wrong-field {goal} {from} {to} {before} {ns} {end} {k} p (Malformed field) h e = (
    ap parts_of (sym (stop to k end field h e)) ∙ p.answer,
    ap (λ (t : PartsTaken). sets ns k (numbers_in t)) (sym (stop to k end field h e)) ∙ p.stored,
  )

  pub last-field : {goal : PartsTaken} {from to : ℕ} {before ns : List ℕ} {end k : ℕ} (p : Progress fifo text goal from to before ns end k) → to ≤ k → (Ok end ≡ parts_of goal) × (ns ≡ sets before from (numbers_in goal))
  last-field {goal} {from} {to} {before} {ns} {end} {k} p h = (
    ap parts_of (sym (none to k end h)) ∙ p.answer,
    ap (λ (t : PartsTaken). sets ns k (numbers_in t)) (sym (none to k end h)) ∙ p.stored,
  )

-- ---- as many numbers as fields
abbrev Long : ℕ → PartsTaken → Type 0
Long n (got ns next) = length ns ≡ n
Long n (wrong ns field) = Unit

long-onto : (n x : ℕ) (t : PartsTaken) → Long n t → Long (suc n) (onto x t)
long-onto n x (got ns next) h = ap suc h
long-onto n x (wrong ns field) h = tt

long-then : (n : ℕ) (p : Part) (rest : ℕ → ℕ → PartsTaken) → ((x next : ℕ) → Long n (rest x next)) → Long (suc n) (and_then p rest)
long-then n (Ok (x, next)) rest h = long-onto n x (rest x next) (h x next)
long-then n (Err (Malformed field)) rest h = tt

parts-long : (fifo : Bool) (text : List ℕ) (n k at : ℕ) → Long n (parts_at fifo text n k at)
unfolding parts_at
parts-long fifo text zero k at = refl
parts-long fifo text (suc n) k at = long-then n (part_at fifo k text at) (λ x. parts_at fifo text n (suc k)) (λ x next. parts-long fifo text n (suc k) next)

-- ---- the count and the samples
queue-closed : (text : List ℕ) (n x : ℕ) (t : PartsTaken) → Long n t → close_of text (282 + n) (parts_of t) ≡ queue_fields text (onto x t)
queue-closed text n x (got ns next) h = ap (λ (m : ℕ). close_of text m (Ok next)) (more n (length ns) h)
  where
    more : (n m : ℕ) → m ≡ n → 282 + n ≡ 281 + suc m
    more n m h = omega arith
queue-closed text n x (wrong ns field) h = refl

module _ (fifo : Bool) (text : List ℕ) where
  pub queue-is : (at n next : ℕ) → part_at fifo 281 text at ≡ Ok (n, next) → queue_part_at fifo text at ≡ onto n (parts_at fifo text n 282 next)
  unfolding queue_part_at
  queue-is at n next e = rw e

  queue-wrong : (at field : ℕ) → part_at fifo 281 text at ≡ Err (Malformed field) → queue_part_at fifo text at ≡ wrong [] field
  unfolding queue_part_at
  queue-wrong at field e = rw e

  pub queue-taken : (at n next : ℕ) (p : Fields) → part_at fifo 281 text at ≡ Ok (n, next) → p ≡ parts_of (parts_at fifo text ((282 + n) - 282) 282 next) → close_of text (282 + n) p ≡ queue_fields text (queue_part_at fifo text at)
  queue-taken at n next p e f =
      ap (close_of text (282 + n)) (f ∙ ap (λ (m : ℕ). parts_of (parts_at fifo text m 282 next)) (back n))
      ∙ queue-closed text n n (parts_at fifo text n 282 next) (parts-long fifo text n 282 next)
      ∙ ap (queue_fields text) (sym (queue-is at n next e))
    where
      back : (n : ℕ) → (282 + n) - 282 ≡ n
      back n = omega arith

  pub queue-stored : (at n next : ℕ) (before mid after : List ℕ) → part_at fifo 281 text at ≡ Ok (n, next) → mid ≡ set before 281 n → after ≡ sets mid 282 (numbers_in (parts_at fifo text ((282 + n) - 282) 282 next)) → after ≡ sets before 281 (numbers_in (queue_part_at fifo text at))
  queue-stored at n next before mid after e f g =
      g ∙ ap (λ (m : ℕ). sets mid 282 (numbers_in (parts_at fifo text m 282 next))) (back n)
      ∙ ap (λ (l : List ℕ). sets l 282 (numbers_in (parts_at fifo text n 282 next))) f
      ∙ sym (ap (λ (t : PartsTaken). sets before 281 (numbers_in t)) (queue-is at n next e) ∙ ap (sets before 281) (numbers-onto n (parts_at fifo text n 282 next)))
    where
      back : (n : ℕ) → (282 + n) - 282 ≡ n
      back n = omega arith

  pub queue-refused : (at : ℕ) (f : FieldError) (before : List ℕ) → part_at fifo 281 text at ≡ Err f → (Err f ≡ queue_fields text (queue_part_at fifo text at)) × (before ≡ sets before 281 (numbers_in (queue_part_at fifo text at)))
  queue-refused at (Malformed field) before e = (ap (queue_fields text) (sym (queue-wrong at field e)), ap (λ (t : PartsTaken). sets before 281 (numbers_in t)) (sym (queue-wrong at field e)))

  -- ---- the whole line
  fields-follow : (ns : List ℕ) (t : PartsTaken) → length ns ≡ 281 → queue_fields text t ≡ fields_of (line_ended text (follows ns t))
  fields-follow ns (wrong ms field) h = refl
  fields-follow ns (got ms next) h = go (closed_at text next) refl
    where
      all : length (ns ++ ms) ≡ 281 + length ms
      all = length-append ns ms ∙ ap (λ (n : ℕ). n + length ms) h

      go : (b : Bool) → closed_at text next ≡ b → close_of text (281 + length ms) (Ok next) ≡ fields_of (line_ended text (got (ns ++ ms) next))
      go true e = rw e (ap Ok (sym all))
      go false e = rw e (ap (λ (n : ℕ). Err (Malformed (n + 1))) (sym all))

  numbers-follow : (ns : List ℕ) (t : PartsTaken) → line_numbers (line_ended text (follows ns t)) ≡ ns ++ numbers_in t
  numbers-follow ns (wrong ms field) = refl
  numbers-follow ns (got ms next) = cond-by (λ r. line_numbers r ≡ ns ++ ms) (closed_at text next) _ _ (λ e. refl) (λ e. refl)

  record Got (t : PartsTaken) (next : ℕ) : Type 0 where
    numbers : List ℕ
    is : t ≡ got numbers next
    long : length numbers ≡ 281

  first-parts : (t : PartsTaken) (next : ℕ) → Long 281 t → Ok next ≡ parts_of t → Got t next
  first-parts (got ns at) next h e = record { numbers = ns; is = cc; long = h }
  first-parts (wrong ns field) next h e = record { numbers = ns; is = cc; long = cc }

  line-is : (ns : List ℕ) (next : ℕ) → parts_at fifo text 281 0 0 ≡ got ns next → read_line fifo text ≡ line_ended text (follows ns (queue_part_at fifo text next))
  unfolding read_line
  line-is ns next e = ap (λ (t : PartsTaken). line_ended text (with_queue fifo text t)) e

  line-wrong : (ns : List ℕ) (field : ℕ) → parts_at fifo text 281 0 0 ≡ wrong ns field → read_line fifo text ≡ malformed ns field
  unfolding read_line
  line-wrong ns field e = ap (λ (t : PartsTaken). line_ended text (with_queue fifo text t)) e

  pub line_taken : (next : ℕ) (r : Fields) (before mid after : List ℕ) → Ok next ≡ parts_of (parts_at fifo text 281 0 0) → mid ≡ sets before 0 (numbers_in (parts_at fifo text 281 0 0))
      → r ≡ queue_fields text (queue_part_at fifo text next) → after ≡ sets mid 281 (numbers_in (queue_part_at fifo text next))
      → (r ≡ fields_of (read_line fifo text)) × (after ≡ sets before 0 (line_numbers (read_line fifo text)))
  line_taken next r before mid after e f g h =
      let d = first-parts (parts_at fifo text 281 0 0) next (parts-long fifo text 281 0 0) e in
      let ns = d.numbers in
      let q = queue_part_at fifo text next in (
        g ∙ fields-follow ns q d.long ∙ ap fields_of (sym (line-is ns next d.is)),
        h ∙ ap (λ (l : List ℕ). sets l 281 (numbers_in q)) (f ∙ ap (λ (t : PartsTaken). sets before 0 (numbers_in t)) d.is) ∙ ap (λ (n : ℕ). sets (sets before 0 ns) n (numbers_in q)) (start (length ns) d.long) ∙ sym (sets-append ns (numbers_in q) before 0)
            ∙ ap (sets before 0) (sym (numbers-follow ns q) ∙ ap line_numbers (sym (line-is ns next d.is))),
      )
    where
      start : (n : ℕ) → n ≡ 281 → 281 ≡ 0 + n
      start n e = omega arith

  pub line_refused : (f : FieldError) (before after : List ℕ) → Err f ≡ parts_of (parts_at fifo text 281 0 0) → after ≡ sets before 0 (numbers_in (parts_at fifo text 281 0 0)) → (Err f ≡ fields_of (read_line fifo text)) × (after ≡ sets before 0 (line_numbers (read_line fifo text)))
  line_refused (Malformed field) before after e f = go (parts_at fifo text 281 0 0) refl
    where
      go : (t : PartsTaken) → parts_at fifo text 281 0 0 ≡ t → (Err (Malformed field) ≡ fields_of (read_line fifo text)) × (after ≡ sets before 0 (line_numbers (read_line fifo text)))
      go (got ns next) q = let z : Err (Malformed field) ≡ Ok next = e ∙ ap parts_of q in (cc, cc)
      go (wrong ns at) q =
          let z : Err (Malformed field) ≡ Err (Malformed at) = e ∙ ap parts_of q in
          let w : Err (Malformed field) ≡ Err (Malformed at) = cc in
          (w ∙ ap fields_of (sym (line-wrong ns at q)), f ∙ ap (λ (t : PartsTaken). sets before 0 (numbers_in t)) q ∙ ap (λ (t : ReadLine). sets before 0 (line_numbers t)) (sym (line-wrong ns at q)))
