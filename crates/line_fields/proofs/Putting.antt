-- What is written of a line: its fields' texts, one behind the other. Assumes nothing.
use mathlib.Core.Path.{◌≡◌, refl, sym, ap, ◌∙◌}
use mathlib.Core.Bool.{Bool, true, false}
use mathlib.Core.List.{List, [], ◌∷◌, ◌++◌, append_assoc, append-nil}
use Prim.Native.Nat.{ℕ, zero, suc, ◌+◌, ◌-◌, ◌%◌, ◌≤◌, ◌<◌, ◌^◌, min}
use native.Mathlib.Nat.{add-zero}
use native.Mathlib.Numerals.{add-one}
use native.Mathlib.Omega.{arith}
use lib.Dec.{leb, ltb}
use lib.IntN.{ℤ}
use lib.ListN.{length, take, drop, get_or, length-append, take-append-drop}
use lib.Seq.{take-suc, take_all}
use mir.Syntax.{w16}
use mir.Val.{SFits}
use mir.ValLaws.{to_z-Fits}
use borrow.Author.Tests.{eq-eqb, ne_eqb, lt-leb, lt-ltb, le-ltb, leb-true, leb-false}
use Rattle.decimal.specs.Written.{decimal, render}
use Rattle.output.specs.declared.Output.{Output}
use Rattle.output.specs.Output.{Put, Puts}
use Rattle.output.proofs.Writing.{puts-append}
use Rattle.decimal.proofs.Writing.{width-most, sample-width}
use Rattle.line_fields.specs.Table.{is_sample, sample_of_number}
use Rattle.line_fields.specs.Text.{field_text, part_text, parts_text, line_text, written_of, put_of}
use Rattle.std.specs.Prelude.{Ok, Err}
use Rattle.line_fields.specs.declared.RoomError.TheVariants.{TextBuffer}

pub text-sample : (k n : ℕ) → is_sample k ≡ true → field_text k n ≡ render (sample_of_number n)
unfolding field_text
text-sample k n e = rw e

pub text-natural : (k n : ℕ) → is_sample k ≡ false → field_text k n ≡ decimal n
unfolding field_text
text-natural k n e = rw e

pub first_part : (k n : ℕ) → k ≡ 0 → part_text k n ≡ field_text k n
unfolding part_text
first_part k n e = rw (eq-eqb k 0 e)

pub later-part : (k n : ℕ) → (k ≡ 0 → ⊥) → part_text k n ≡ 44 ∷ field_text k n
unfolding part_text
later-part k n e = rw (ne_eqb k 0 e)

pub puts-sample : (s t : Output) (k n : ℕ) (z : ℤ) → is_sample k ≡ true → z ≡ sample_of_number n → Puts s t (render z) → Puts s t (field_text k n)
puts-sample s t k n z e f p = rw (text-sample k n e, ← f) p

pub puts-plain : (s t : Output) (k n : ℕ) → is_sample k ≡ false → Puts s t (decimal n) → Puts s t (field_text k n)
puts-plain s t k n e p = rw (text-natural k n e) p

pub puts_first : (s t : Output) (k n : ℕ) → k ≡ 0 → Puts s t (field_text k n) → Puts s t (part_text k n)
puts_first s t k n e p = rw (first_part k n e) p

pub puts-later : (s t u : Output) (k n : ℕ) → (k ≡ 0 → ⊥) → Puts s t (44 ∷ []) → Puts t u (field_text k n) → Puts s u (part_text k n)
puts-later s t u k n h p q = rw (later-part k n h) (puts-append s t u (44 ∷ []) (field_text k n) p q)

-- ---- fields put one behind the other
pub parts-append : (k : ℕ) (ns ms : List ℕ) → parts_text k (ns ++ ms) ≡ parts_text k ns ++ parts_text (k + length ns) ms
unfolding parts_text
parts-append k [] ms = ap (λ (j : ℕ). parts_text j ms) (sym (add-zero k))
parts-append k (n ∷ ns) ms =
    ap (λ (l : List ℕ). part_text k n ++ l) (parts-append (suc k) ns ms ∙ ap (λ (j : ℕ). parts_text (suc k) ns ++ parts_text j ms) (move k (length ns)))
    ∙ sym (append_assoc (part_text k n) (parts_text (suc k) ns) (parts_text (k + suc (length ns)) ms))
  where
    move : (k m : ℕ) → suc k + m ≡ k + suc m
    move k m = omega arith

length_taken : (ns : List ℕ) (k : ℕ) → k < length ns → length (take k ns) ≡ k
length_taken [] k h = absurd (omega arith)
length_taken (n ∷ ns) zero h = refl
length_taken (n ∷ ns) (suc k) h = ap suc (length_taken ns k (omega arith))

pub parts_next : (ns : List ℕ) (k : ℕ) → k < length ns → parts_text 0 (take (k + 1) ns) ≡ parts_text 0 (take k ns) ++ part_text k (get_or ns k 0)
unfolding parts_text
parts_next ns k h =
    rw (add-one k, take-suc ns k 0 h)
    (parts-append 0 (take k ns) (get_or ns k 0 ∷ []) ∙ ap (λ (j : ℕ). parts_text 0 (take k ns) ++ parts_text j (get_or ns k 0 ∷ [])) (none (length (take k ns)) k (length_taken ns k h)) ∙ ap (λ (l : List ℕ). parts_text 0 (take k ns) ++ l) (append-nil (part_text k (get_or ns k 0))))
  where
    none : (m k : ℕ) → m ≡ k → 0 + m ≡ k
    none m k e = omega arith

pub puts-parts : (s t u : Output) (ns : List ℕ) (k : ℕ) → k < length ns → Puts s t (parts_text 0 (take k ns)) → Puts t u (part_text k (get_or ns k 0)) → Puts s u (parts_text 0 (take (k + 1) ns))
puts-parts s t u ns k h p q = rw (parts_next ns k h) (puts-append s t u (parts_text 0 (take k ns)) (part_text k (get_or ns k 0)) p q)

pub puts-end : (s t u : Output) (ns : List ℕ) (k : ℕ) → length ns ≤ k → Puts s t (parts_text 0 (take k ns)) → Puts t u (10 ∷ []) → Puts s u (line_text ns)
unfolding line_text
puts-end s t u ns k h p q =
    puts-append s t u (parts_text 0 ns) (10 ∷ []) (let z : Puts s t (parts_text 0 ns) = rw (take_all k ns h) at p in z) q

-- ---- widths
pub width-sample : (w k n : ℕ) (z : ℤ) → is_sample k ≡ true → z ≡ sample_of_number n → w ≡ length (render z) → w ≡ length (field_text k n)
width-sample w k n z e f p = rw (text-sample k n e, ← f) p

pub width-plain : (w k n : ℕ) → is_sample k ≡ false → w ≡ length (decimal n) → w ≡ length (field_text k n)
width-plain w k n e p = rw (text-natural k n e) p

pub sample-fits : (n : ℕ) → SFits w16 (sample_of_number n)
unfolding sample_of_number
sample-fits n = to_z-Fits w16 (n % 65536) (record { fits = omega arith })

pub field-most : (k n : ℕ) → n < 2 ^ 64 → length (field_text k n) ≤ 20
field-most k n h = go (is_sample k) refl
  where
    go : (b : Bool) → is_sample k ≡ b → length (field_text k n) ≤ 20
    go true e = rw (text-sample k n e) (omega (arith, sample-width (sample_of_number n) (sample-fits n)))
    go false e = rw (text-natural k n e) (width-most n h)

pub width-part : (k n w : ℕ) → (k ≡ 0 → ⊥) → w ≡ length (field_text k n) → w + 1 ≡ length (part_text k n)
width-part k n w h e = rw (later-part k n h) (omega arith)

pub parts-width : (ns : List ℕ) (k : ℕ) → k < length ns → length (parts_text 0 (take (k + 1) ns)) ≡ length (parts_text 0 (take k ns)) + length (part_text k (get_or ns k 0))
parts-width ns k h = rw (parts_next ns k h) (length-append (parts_text 0 (take k ns)) (part_text k (get_or ns k 0)))

pub line-width : (ns : List ℕ) → length (line_text ns) ≡ length (parts_text 0 ns) + 1
unfolding line_text
line-width ns = length-append (parts_text 0 ns) (10 ∷ [])

-- the first fields take no more than all
split : (ns : List ℕ) (k : ℕ) → length (parts_text 0 (take k ns)) ≤ length (parts_text 0 ns)
split ns k =
    let e : length (parts_text 0 ns) ≡ length (parts_text 0 (take k ns)) + length (parts_text (0 + length (take k ns)) (drop k ns)) =
    ap (λ (l : List ℕ). length (parts_text 0 l)) (sym (take-append-drop k ns)) ∙ ap length (parts-append 0 (take k ns) (drop k ns)) ∙ length-append (parts_text 0 (take k ns)) (parts_text (0 + length (take k ns)) (drop k ns)) in
    omega arith

-- a field for which there is no room
pub no_room : (ns : List ℕ) (k left room w : ℕ) → k < length ns → left + length (parts_text 0 (take k ns)) ≡ room → w ≡ length (part_text k (get_or ns k 0)) → left < w → leb (length (line_text ns)) room ≡ false
no_room ns k left room w h e f g = lt-leb (length (line_text ns)) room (omega (arith, line-width ns, split ns (k + 1), parts-width ns k h))

pub all_room : (ns : List ℕ) (k left room : ℕ) → length ns ≤ k → left + length (parts_text 0 (take k ns)) ≡ room → ltb 0 left ≡ leb (length (line_text ns)) room
all_room ns k left room h e = go (leb (length (line_text ns)) room) refl
  where
    whole : left + length (parts_text 0 ns) ≡ room
    whole = rw (take_all k ns h) at e

    go : (b : Bool) → leb (length (line_text ns)) room ≡ b → ltb 0 left ≡ b
    go true t = lt-ltb 0 left (omega (arith, leb-true (length (line_text ns)) room t, line-width ns, whole))
    go false t = le-ltb 0 left (omega (arith, leb-false (length (line_text ns)) room t, line-width ns, whole))

pub nothing_put : (left : ℕ) (ns : List ℕ) → left + length (parts_text 0 (take 0 ns)) ≡ left
unfolding parts_text
nothing_put left ns = add-zero left

pub one-put : (ns : List ℕ) (k left room w : ℕ) → k < length ns → left + length (parts_text 0 (take k ns)) ≡ room → w ≡ length (part_text k (get_or ns k 0)) → w ≤ left → (left - w) + length (parts_text 0 (take (k + 1) ns)) ≡ room
one-put ns k left room w h e f g = omega (arith, parts-width ns k h)

pub none-put : (l : List ℕ) (ns : List ℕ) → Put l l 0 (parts_text 0 (take 0 ns)) 0
unfolding parts_text
none-put l ns = (omega arith, refl)

-- ---- a line that fits
pub write-yes : (l m ns : List ℕ) (r : ℕ) → leb (length (line_text ns)) (length l) ≡ true → Put l m 0 (line_text ns) r → (Ok r ≡ written_of l (line_text ns)) × (m ≡ put_of l (line_text ns))
write-yes l m ns r e p = rw e (ap Ok (p.0 ∙ all (length (line_text ns)) (length l) (leb-true (length (line_text ns)) (length l) e)), p.1)
  where
    all : (n m : ℕ) → n ≤ m → min (0 + n) m ≡ n
    all n m h = omega arith

pub write-no : (l ns : List ℕ) → leb (length (line_text ns)) (length l) ≡ false → (Err TextBuffer ≡ written_of l (line_text ns)) × (l ≡ put_of l (line_text ns))
write-no l ns e = rw e (refl, refl)
