-- A voice's numbers in a buffer of zeros: put there by the writer, taken from there by the reader. Assumes nothing.
use mathlib.Core.Path.{◌≡◌, refl, sym, ap, ◌∙◌, subst}
use mathlib.Core.Bool.{Bool, true, false, cond}
use mathlib.Core.List.{List, [], ◌∷◌, ◌++◌}
use Prim.Native.Nat.{ℕ, zero, suc, ◌+◌, ◌≤◌, ◌<◌, min}
use native.Mathlib.Omega.{arith}
use lib.IntN.{ℤ}
use lib.ListN.{length, get_or, drop, take, length-append, replicate, length-replicate}
use lib.Seq.{sets, length-sets, sets-eq, take_at, get_or-drop}
use borrow.Author.Tests.{le-leb, lt-ltb, le-ltb}
use Rattle.sizes.specs.Sizes.{fifo_capacity}
use Rattle.cores.specs.Sizes.{chip_voices}
use Rattle.num.proofs.Lists.{sets-append}
use Rattle.line_fields.specs.Text.{line_text, written_of, put_of, Written}
use Rattle.line_fields.specs.Reading.{ReadLine, line, malformed, read_line, fields_of, line_numbers}
use Rattle.line_fields.proofs.Good.{read-good}
use Rattle.version.specs.Versions.{has3ws8pna}
use Rattle.registers.specs.Queue.{allows_fifo}
use Rattle.registers.specs.declared.Fifo.{Fifo}
use Rattle.version.specs.declared.SguVersion.{SguVersion}
use Rattle.voice.specs.declared.Channel.{Channel}
use Rattle.session_lines.specs.Numbers.{at, state_numbers, table_numbers, queue_numbers, field_numbers, channel_from, table_of, queued_samples}
use Rattle.session_lines.specs.Lines.{refused_voice, ReadVoice, voice, voice_of, queue_told, voice_taken, voice_from, read_as, voice_text, told_of, channel_after, table_after, queue_after}
use Rattle.session_lines.specs.Lines as lines
use Rattle.session_lines.proofs.Storing.{size-table, size-queue}
use Rattle.std.specs.Prelude.{Ok, Err}
use Rattle.session_lines.specs.declared.VoiceError.TheVariants as told
use Rattle.line_fields.specs.declared.FieldError.{FieldError}
use Rattle.line_fields.specs.declared.FieldError.TheVariants.{Malformed}

-- ---- zeros
zero-at : (n k : ℕ) → ◌≡◌ {A = ℕ} (get_or (replicate n 0) k 0) 0
zero-at zero k = refl
zero-at (suc n) zero = refl
zero-at (suc n) (suc k) = zero-at n k

before-zeros : (ns zs : List ℕ) → ((k : ℕ) → ◌≡◌ {A = ℕ} (get_or zs k 0) 0) → (k : ℕ) → get_or (ns ++ zs) k 0 ≡ get_or ns k 0
before-zeros [] zs h k = h k
before-zeros (n ∷ ns) zs h zero = refl
before-zeros (n ∷ ns) zs h (suc k) = before-zeros ns zs h k

-- numbers at the beginning of zeros are found at their places
found : (m : ℕ) (ns : List ℕ) → length ns ≤ m → (k : ℕ) → at (sets (replicate m 0) 0 ns) k ≡ at ns k
found m ns h k =
    ap (λ (l : List ℕ). get_or l k 0) (sets-eq ns (replicate m 0) 0 (omega (arith, length-replicate {0} {A = ℕ} m 0)))
    ∙ before-zeros ns (drop (0 + length ns) (replicate m 0)) (λ j. get_or-drop (0 + length ns) (replicate m 0) j 0 ∙ zero-at m (0 + length ns + j)) k

-- ---- read
abbrev pub field_of : FieldError → ℕ
field_of (Malformed field) = field

pub refused : (x : FieldError) → told_of (lines.malformed (field_of x)) ≡ Err (refused_voice x)
refused (Malformed field) = refl

module _ (stored : Bool) (version : SguVersion) where
  -- the voice that numbers tell
  abbrev pub by : (ℕ → ℕ) → ReadVoice
  by f = voice_taken version f (queue_told stored version f)

  pub read-yes : (text : List ℕ) (fifo : Bool) (count : ℕ) (buffer : List ℕ) → fifo ≡ has3ws8pna version → Ok count ≡ fields_of (read_line fifo text) → buffer ≡ sets (replicate 2330 0) 0 (line_numbers (read_line fifo text)) → read_as stored version text ≡ by (at buffer)
  unfolding read_as
  read-yes text fifo count buffer e f g = ap (λ (b : Bool). voice_from stored version (read_line b text)) (sym e) ∙ go (read_line fifo text) refl
    where
      go : (r : ReadLine) → read_line fifo text ≡ r → voice_from stored version (read_line fifo text) ≡ by (at buffer)
      go (line ns) q =
          let there : buffer ≡ sets (replicate 2330 0) 0 ns = g ∙ ap (λ (r : ReadLine). sets (replicate 2330 0) 0 (line_numbers r)) q in
          let same : (k : ℕ) → at ns k ≡ at buffer k = λ k. sym (ap (λ (l : List ℕ). at l k) there ∙ found 2330 ns (read-good fifo text ns q).size k) in
          ap (voice_from stored version) q ∙ (λ i. by (λ k. same k i))
      go (malformed ns field) q = let z : Ok count ≡ Err (Malformed field) = f ∙ ap fields_of q in (cc)

  pub read_no : (text : List ℕ) (fifo : Bool) (x : FieldError) → fifo ≡ has3ws8pna version → Err x ≡ fields_of (read_line fifo text) → read_as stored version text ≡ lines.malformed (field_of x)
  unfolding read_as
  read_no text fifo (Malformed field) e f = ap (λ (b : Bool). voice_from stored version (read_line b text)) (sym e) ∙ go (read_line fifo text) refl
    where
      go : (r : ReadLine) → read_line fifo text ≡ r → voice_from stored version (read_line fifo text) ≡ lines.malformed field
      go (line ns) q = let z : Err (Malformed field) ≡ Ok (length ns) = f ∙ ap fields_of q in (cc)
      go (malformed ns other) q = let z : Err (Malformed field) ≡ Err (Malformed other) = f ∙ ap fields_of q in let w : lines.malformed other ≡ lines.malformed field = cc in ap (voice_from stored version) q ∙ w

  module _ (f : ℕ → ℕ) (queue : Fifo) (q : queue ≡ queue_told stored version f) where
    not-allowed : allows_fifo version queue ≡ false → by f ≡ lines.queued
    not-allowed e = ap (λ (b : Bool). cond b (voice (voice_of f (queue_told stored version f))) lines.queued) (ap (allows_fifo version) (sym q) ∙ e)

    allowed : allows_fifo version queue ≡ true → by f ≡ voice (voice_of f queue)
    allowed e =
        ap (λ (b : Bool). cond b (voice (voice_of f (queue_told stored version f))) lines.queued) (ap (allows_fifo version) (sym q) ∙ e)
        ∙ ap (λ (g : Fifo). voice (voice_of f g)) (sym q)

    pub told-queued : allows_fifo version queue ≡ false → Err told.Queued ≡ told_of (by f)
    told-queued e = sym (ap told_of (not-allowed e))

    pub told-yes : (n : ℕ) → allows_fifo version queue ≡ true → n ≡ f 0 → Ok n ≡ told_of (by f)
    unfolding voice_of
    told-yes n e h = ap Ok h ∙ ap told_of (sym (allowed e))

    pub after-yes : (c d : Channel) (w v : List ℕ) (l p : List ℤ) → allows_fifo version queue ≡ true → d ≡ channel_from f queue → v ≡ sets w 0 (table_of f) → p ≡ sets l 0 (queued_samples f queue.count)
        → (d ≡ channel_after (by f) c) × ((v ≡ table_after (by f) w) × (p ≡ queue_after (by f) l))
    unfolding voice_of
    after-yes c d w v l p e x y z =
        let r = sym (allowed e) in
        (x ∙ ap (λ (s : ReadVoice). channel_after s c) r, (y ∙ ap (λ (s : ReadVoice). table_after s w) r, z ∙ ap (λ (s : ReadVoice). queue_after s l) r))

-- what is left is by what a line's reading is
pub after_same : (r s : ReadVoice) (c d : Channel) (w v : List ℕ) (l p : List ℤ) → r ≡ s → (d ≡ channel_after s c) × ((v ≡ table_after s w) × (p ≡ queue_after s l)) → (d ≡ channel_after r c) × ((v ≡ table_after r w) × (p ≡ queue_after r l))
after_same r s c d w v l p e x = subst (λ (t : ReadVoice). (d ≡ channel_after t c) × ((v ≡ table_after t w) × (p ≡ queue_after t l))) (sym e) x

pub after-no : (r : ReadVoice) (field : ℕ) (c : Channel) (w : List ℕ) (q : List ℤ) → r ≡ lines.malformed field → (c ≡ channel_after r c) × ((w ≡ table_after r w) × (q ≡ queue_after r q))
after-no r field c w q e = after_same r (lines.malformed field) c c w w q q e (refl, (refl, refl))

-- ---- written
pub size-states : (number : ℕ) (c : Channel) → length (state_numbers number c) ≡ 25
unfolding state_numbers
size-states number c = refl

size-queue-numbers : (c : Channel) (q : List ℤ) → length (queue_numbers c.fifo q) ≡ 1 + min c.fifo.count fifo_capacity
unfolding queue_numbers
size-queue-numbers c q = ap suc (size-queue q c.fifo.head (min c.fifo.count fifo_capacity)) ∙ one (min c.fifo.count fifo_capacity)
  where
    one : (n : ℕ) → suc n ≡ 1 + n
    one n = omega arith

pub size-numbers : (number : ℕ) (c : Channel) (w : List ℕ) (q : List ℤ) → length (field_numbers number c w q) ≡ 282 + min c.fifo.count fifo_capacity
unfolding field_numbers
size-numbers number c w q =
    let S = state_numbers number c in
    let T = table_numbers w in
    let Q = queue_numbers c.fifo q in
    omega (arith, length-append S (T ++ Q), length-append T Q, size-states number c, size-table w, size-queue-numbers c q)

pub parts-of : (number : ℕ) (c : Channel) (w : List ℕ) (q : List ℤ) → field_numbers number c w q ≡ state_numbers number c ++ (table_numbers w ++ queue_numbers c.fifo q)
unfolding field_numbers
parts-of number c w q = refl

pub text-is : (number : ℕ) (c : Channel) (w : List ℕ) (q : List ℤ) → number < chip_voices → voice_text number c w q ≡ line_text (field_numbers number c w q)
unfolding voice_text
text-is number c w q h = rw (lt-ltb number chip_voices h)

text-none : (number : ℕ) (c : Channel) (w : List ℕ) (q : List ℤ) → chip_voices ≤ number → voice_text number c w q ≡ []
unfolding voice_text
text-none number c w q h = rw (le-ltb number chip_voices h)

pub room : (S T Q l a b d : List ℕ) (n count : ℕ) → 2330 ≤ length l → a ≡ sets l 0 S → b ≡ sets a 25 T → d ≡ sets b 281 Q → count ≡ min n fifo_capacity → 282 + count ≤ length d
room S T Q l a b d n count h e f g k =
    omega (arith, ap length e ∙ length-sets l 0 S, ap length f ∙ length-sets a 25 T, ap length g ∙ length-sets b 281 Q)

-- the three parts put one behind the other are the voice's numbers
pub packed : (number : ℕ) (c : Channel) (w : List ℕ) (q : List ℤ) (l a b d : List ℕ) (count : ℕ) → 2330 ≤ length l → a ≡ sets l 0 (state_numbers number c) → b ≡ sets a 25 (table_numbers w) → d ≡ sets b 281 (queue_numbers c.fifo q) → count ≡ min c.fifo.count fifo_capacity → take (282 + count) d ≡ field_numbers number c w q
packed number c w q l a b d count room e f g h =
    ap (take (282 + count)) all ∙ ap (take (282 + count)) (sets-eq N l 0 (omega (arith, size-numbers number c w q))) ∙ take_at N (drop (0 + length N) l) (282 + count) (size-numbers number c w q ∙ ap (λ (n : ℕ). 282 + n) (sym h))
  where
    S : List ℕ
    S = state_numbers number c

    T : List ℕ
    T = table_numbers w

    Q : List ℕ
    Q = queue_numbers c.fifo q

    N : List ℕ
    N = field_numbers number c w q

    second : (n : ℕ) → n ≡ 25 → 25 ≡ 0 + n
    second n e = omega arith

    third : (n m : ℕ) → n ≡ 25 → m ≡ 256 → 281 ≡ 0 + n + m
    third n m e f = omega arith

    joined : sets l 0 (S ++ (T ++ Q)) ≡ sets l 0 N
    joined = ap (sets l 0) (sym (parts-of number c w q))

    all : d ≡ sets l 0 N
    all =
        g
        ∙ ap (λ (x : List ℕ). sets x 281 Q) (f ∙ ap (λ (x : List ℕ). sets x 25 T) e)
        ∙ ap (λ (k : ℕ). sets (sets (sets l 0 S) k T) 281 Q) (second (length S) (size-states number c))
        ∙ ap (λ (k : ℕ). sets (sets (sets l 0 S) (0 + length S) T) k Q) (third (length S) (length T) (size-states number c) (size-table w))
        ∙ sym (sets-append T Q (sets l 0 S) (0 + length S))
        ∙ sym (sets-append S (T ++ Q) l 0)
        ∙ joined

pub write-yes : (number : ℕ) (c : Channel) (w : List ℕ) (q : List ℤ) (out after ns : List ℕ) (r : Written) → number < chip_voices → ns ≡ field_numbers number c w q → r ≡ written_of out (line_text ns) → after ≡ put_of out (line_text ns) → (r ≡ written_of out (voice_text number c w q)) × (after ≡ put_of out (voice_text number c w q))
write-yes number c w q out after ns r h e x y =
    let t : line_text ns ≡ voice_text number c w q = ap line_text e ∙ sym (text-is number c w q h) in
    (x ∙ ap (written_of out) t, y ∙ ap (put_of out) t)

pub write-none : (number : ℕ) (c : Channel) (w : List ℕ) (q : List ℤ) (out : List ℕ) → chip_voices ≤ number → (Ok 0 ≡ written_of out (voice_text number c w q)) × (out ≡ put_of out (voice_text number c w q))
write-none number c w q out h = rw (text-none number c w q h, le-leb 0 (length out) (omega arith)) (refl, refl)
