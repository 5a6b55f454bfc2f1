-- What is written is read back: the numbers of a line, each in its field's range. Assumes nothing.
use mathlib.Core.Path.{◌≡◌, refl, sym, ap, ◌∙◌}
use mathlib.Core.Bool.{Bool, true, false}
use mathlib.Core.List.{List, [], ◌∷◌, ◌++◌, append_assoc}
use Prim.Native.Nat.{ℕ, suc, ◌+◌, ◌%◌, ◌^◌, ◌≤◌, ◌<◌}
use native.Mathlib.Nat.{add-zero}
use native.Mathlib.Omega.{arith}
use lib.Dec.{ltb, eqb, ltb→lt}
use lib.IntN.{pos, negsuc}
use lib.ListN.{length, drop, get_or, length-append}
use lib.Seq.{drop_at, get_or-drop, drop-drop}
use mir.Syntax.{w16}
use mir.Val.{SFits, of_z}
use mir.ValLaws.{of_z-to_z}
use borrow.Author.Tests.{eq-eqb, eqb-true, eqb-false}
use Rattle.sizes.specs.Sizes.{fifo_capacity}
use Rattle.num.proofs.Choice.{cond-by}
use Rattle.num.proofs.Integers.{fit-up, fit-down, one-zero, le-lt_z}
use Rattle.num.proofs.Fit.{widen16-64}
use Rattle.num.proofs.Tables.{at_all}
use Rattle.decimal.specs.Read.{digits_of}
use Rattle.decimal.specs.Written.{decimal, render}
use Rattle.decimal.proofs.RoundTrip.{natural-back, number-back}
use Rattle.line_fields.specs.Table.{is_sample, sample_of_number, most_of, mosts}
use Rattle.line_fields.specs.Text.{field_text, part_text, parts_text, line_text}
use Rattle.line_fields.specs.Reading.{sample_of16, natural_of, field_at, part_at, PartsTaken, got, onto, parts_at, line, closed_at, follows, line_ended, queue_part_at, with_queue, read_line}
use Rattle.line_fields.proofs.Putting.{text-sample, text-natural, first_part, later-part, sample-fits, parts-append}
use Rattle.line_fields.proofs.Taking.{natural-in, sample_in, field-sample, field-natural, part-first, part-next, queue-is}
use Rattle.line_fields.proofs.Bounds.{sample-most}
use Rattle.line_fields.proofs.Good.{Within, ahead, behind}
use Rattle.std.specs.Prelude.{Ok}

pub most-below : (fifo : Bool) (k : ℕ) → most_of fifo k < 2 ^ 64
unfolding most_of
most-below fifo k =
    cond-by (λ (m : ℕ). m < 2 ^ 64) (eqb k 2) _ _ (λ e. cond-by (λ (m : ℕ). m < 2 ^ 64) fifo 5 4 (λ f. omega arith) (λ f. omega arith))
    (λ e. cond-by (λ (m : ℕ). m < 2 ^ 64) (ltb k 25) _ _ (λ f. ltb→lt (get_or mosts k 0) (2 ^ 64) (at_all (λ (m : ℕ). ltb m (2 ^ 64)) 0 tt mosts tt k))
    (λ f. cond-by (λ (m : ℕ). m < 2 ^ 64) (ltb k 281) 255 _ (λ g. omega arith) (λ g. cond-by (λ (m : ℕ). m < 2 ^ 64) (eqb k 281) fifo_capacity 65535 (λ h. omega arith) (λ h. omega arith))))

bits_back : (n : ℕ) → n ≤ 65535 → of_z w16 (sample_of_number n) ≡ n
unfolding sample_of_number
bits_back n h = of_z-to_z w16 (n % 65536) (record { fits = omega arith }) ∙ small n h
  where
    small : (n : ℕ) → n ≤ 65535 → n % 65536 ≡ n
    small n h = omega arith

-- ---- one field
field_back : (fifo : Bool) (k n : ℕ) (text rest : List ℕ) (a : ℕ) → drop a text ≡ field_text k n ++ rest → digits_of rest ≡ [] → n ≤ most_of fifo k → field_at fifo k text a ≡ Ok (n, a + length (field_text k n))
field_back fifo k n text rest a e f h = go (is_sample k) refl
  where
    go : (b : Bool) → is_sample k ≡ b → field_at fifo k text a ≡ Ok (n, a + length (field_text k n))
    go true s =
        let z = sample_of_number n in
        let w : SFits w16 z = sample-fits n in
        field-sample fifo k text a s
        ∙ ap (sample_of16 (k + 1)) (number-back z text rest a (widen16-64 w) (e ∙ ap (λ (l : List ℕ). l ++ rest) (text-sample k n s)) f)
        ∙ sample_in (k + 1) (a + length (render z)) z (le-lt_z z (negsuc 32767) (omega (arith, fit-down w, one-zero z))) (le-lt_z (pos 32767) z (omega (arith, fit-up w, one-zero z)))
        ∙ ap (λ (m : ℕ). Ok (m, a + length (render z))) (bits_back n (let q : n ≤ 65535 = rw (sample-most fifo k s) at h in q))
        ∙ ap (λ (l : List ℕ). Ok (n, a + length l)) (sym (text-sample k n s))
    go false s =
        field-natural fifo k text a s
        ∙ ap (natural_of (k + 1) (most_of fifo k)) (natural-back n text rest a (omega (arith, most-below fifo k)) (e ∙ ap (λ (l : List ℕ). l ++ rest) (text-natural k n s)) f)
        ∙ natural-in (k + 1) (most_of fifo k) n (a + length (decimal n)) h
        ∙ ap (λ (l : List ℕ). Ok (n, a + length l)) (sym (text-natural k n s))

-- and the comma before it
part-back : (fifo : Bool) (k n : ℕ) (text rest : List ℕ) (a : ℕ) → drop a text ≡ part_text k n ++ rest → digits_of rest ≡ [] → n ≤ most_of fifo k → part_at fifo k text a ≡ Ok (n, a + length (part_text k n))
part-back fifo k n text rest a e f h = go (eqb k 0) refl
  where
    go : (b : Bool) → eqb k 0 ≡ b → part_at fifo k text a ≡ Ok (n, a + length (part_text k n))
    go true s =
        let z : k ≡ 0 = eqb-true k 0 s in
        part-first fifo k text a z
        ∙ field_back fifo k n text rest a (e ∙ ap (λ (l : List ℕ). l ++ rest) (first_part k n z)) f h
        ∙ ap (λ (l : List ℕ). Ok (n, a + length l)) (sym (first_part k n z))
    go false s =
        let z : k ≡ 0 → ⊥ = eqb-false k 0 s in
        let d : drop a text ≡ 44 ∷ (field_text k n ++ rest) = e ∙ ap (λ (l : List ℕ). l ++ rest) (later-part k n z) in
        let comma : get_or text a 0 ≡ 44 = ap (λ (j : ℕ). get_or text j 0) (sym (add-zero a)) ∙ sym (get_or-drop a text 0 0) ∙ ap (λ (l : List ℕ). get_or l 0 0) d in
        part-next fifo k text a z comma
        ∙ field_back fifo k n text rest (a + 1) (sym (drop-drop 1 a text) ∙ ap (drop 1) d) f h
        ∙ ap (λ (i : ℕ). Ok (n, i)) (longer a (length (field_text k n)) ∙ ap (λ (l : List ℕ). a + length l) (sym (later-part k n z)))
      where
        longer : (a m : ℕ) → a + 1 + m ≡ a + suc m
        longer a m = omega arith

-- ---- fields one behind the other
quiet : (k : ℕ) (ns rest : List ℕ) → digits_of rest ≡ [] → digits_of (parts_text (suc k) ns ++ rest) ≡ []
unfolding parts_text
quiet k [] rest h = h
quiet k (n ∷ ns) rest h = rw (later-part (suc k) n (λ e. omega arith)) refl

parts-back : (fifo : Bool) (text : List ℕ) (ns : List ℕ) (k a : ℕ) (rest : List ℕ) → drop a text ≡ parts_text k ns ++ rest → digits_of rest ≡ [] → Within fifo k ns → parts_at fifo text (length ns) k a ≡ got ns (a + length (parts_text k ns))
unfolding parts_text parts_at
parts-back fifo text [] k a rest e f w = ap (got []) (sym (add-zero a))
parts-back fifo text (n ∷ ns) k a rest e f w =
    let P = part_text k n in
    let R = parts_text (suc k) ns in
    let d : drop a text ≡ P ++ (R ++ rest) = e ∙ append_assoc P R rest in
    let p : part_at fifo k text a ≡ Ok (n, a + length P) = part-back fifo k n text (R ++ rest) a d (quiet k ns rest f) (ahead fifo k n ns w) in
    let d2 : drop (a + length P) text ≡ R ++ rest = sym (drop-drop (length P) a text) ∙ ap (drop (length P)) d ∙ drop_at P (R ++ rest) (length P) refl in
    rw p (ap (onto n) (parts-back fifo text ns (suc k) (a + length P) rest d2 f (behind fifo k n ns w)) ∙ ap (got (n ∷ ns)) (long a (length P) (length R) (length (P ++ R)) (length-append P R)))
  where
    long : (a p r m : ℕ) → m ≡ p + r → a + p + r ≡ a + m
    long a p r m h = omega arith

-- ---- THE ROUND TRIP of a line: 281 fields, the count and as many samples
module _ (fifo : Bool) (xs : List ℕ) (n : ℕ) (ys : List ℕ) (l : length xs ≡ 281) (m : length ys ≡ n) where
  abbrev pub whole : List ℕ
  whole = xs ++ (n ∷ ys)

  abbrev pub text : List ℕ
  text = line_text (xs ++ (n ∷ ys))

  abbrev A : List ℕ
  A = parts_text 0 xs

  abbrev B : List ℕ
  B = part_text 281 n

  abbrev C : List ℕ
  C = parts_text 282 ys

  split : text ≡ A ++ (B ++ (C ++ (10 ∷ [])))
  unfolding line_text parts_text
  split =
      ap (λ (t : List ℕ). t ++ (10 ∷ [])) (parts-append 0 xs (n ∷ ys) ∙ ap (λ (j : ℕ). A ++ parts_text j (n ∷ ys)) (none (length xs) l))
      ∙ append_assoc A (B ++ C) (10 ∷ [])
      ∙ ap (λ (t : List ℕ). A ++ t) (append_assoc B C (10 ∷ []))
    where
      none : (k : ℕ) → k ≡ 281 → 0 + k ≡ 281
      none k e = omega arith

  abbrev a : ℕ
  a = 0 + length A

  abbrev b : ℕ
  b = a + length B

  abbrev c : ℕ
  c = b + length C

  at_a : drop a text ≡ B ++ (C ++ (10 ∷ []))
  at_a = ap (drop a) split ∙ drop_at A (B ++ (C ++ (10 ∷ []))) a (none (length A))
    where
      none : (k : ℕ) → k ≡ 0 + k
      none k = omega arith

  at_b : drop b text ≡ C ++ (10 ∷ [])
  at_b = sym (drop-drop (length B) a text) ∙ ap (drop (length B)) at_a ∙ drop_at B (C ++ (10 ∷ [])) (length B) refl

  at_c : drop c text ≡ 10 ∷ []
  at_c = sym (drop-drop (length C) b text) ∙ ap (drop (length C)) at_b ∙ drop_at C (10 ∷ []) (length C) refl

  closes : closed_at text c ≡ true
  unfolding closed_at
  closes = rw (eq-eqb (get_or text c 0) 10 byte, eq-eqb (length text) (c + 1) size) refl
    where
      byte : get_or text c 0 ≡ 10
      byte = ap (λ (j : ℕ). get_or text j 0) (sym (add-zero c)) ∙ sym (get_or-drop c text 0 0) ∙ ap (λ (t : List ℕ). get_or t 0 0) at_c

      size : length text ≡ c + 1
      size = ap length split ∙ omega (arith, length-append A (B ++ (C ++ (10 ∷ []))), length-append B (C ++ (10 ∷ [])), length-append C (10 ∷ []))

  pub trip : Within fifo 0 xs → n ≤ most_of fifo 281 → Within fifo 282 ys → read_line fifo text ≡ line whole
  unfolding read_line
  trip u v w =
      let first : parts_at fifo text 281 0 0 ≡ got xs a = ap (λ (k : ℕ). parts_at fifo text k 0 0) (sym l) ∙ parts-back fifo text xs 0 0 (B ++ (C ++ (10 ∷ []))) split (quiet-queue) u in
      let second : queue_part_at fifo text a ≡ got (n ∷ ys) c = queue-is fifo text a n b (part-back fifo 281 n text (C ++ (10 ∷ [])) a at_a (quiet 281 ys (10 ∷ []) refl) v) ∙ ap (onto n) (ap (λ (k : ℕ). parts_at fifo text k 282 b) (sym m) ∙ parts-back fifo text ys 282 b (10 ∷ []) at_b refl w) in
      ap (λ (t : PartsTaken). line_ended text (with_queue fifo text t)) first ∙ ap (λ (t : PartsTaken). line_ended text (follows xs t)) second ∙ rw closes refl
    where
      quiet-queue : digits_of (B ++ (C ++ (10 ∷ []))) ≡ []
      quiet-queue = rw (later-part 281 n (λ e. omega arith)) refl
