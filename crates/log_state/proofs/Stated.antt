-- The lines of a state: each is written where there is room for it, and is found whole where it stands. Assumes nothing.
use mathlib.Core.Path.{◌≡◌, refl, sym, ap, ap₂, ◌∙◌}
use mathlib.Core.Bool.{Bool, true, false, cond}
use mathlib.Core.List.{List, [], ◌∷◌, ◌++◌, append_assoc, append-nil}
use Prim.Native.Nat.{ℕ, zero, suc, ◌+◌, ◌-◌, ◌/◌, ◌%◌, ◌^◌, ◌≤◌, ◌<◌}
use native.Mathlib.Omega.{arith}
use lib.Dec.{eqb, ltb}
use lib.IntN.{ℤ, pos, negsuc}
use lib.ListN.{length, take, drop, get_or, length-append}
use lib.Seq.{sets, take-append_seam, drop-append_seam}
use borrow.Author.Tests.{eq-eqb, ne_eqb, le-leb, lt-leb, lt-ltb}
use Rattle.cores.specs.Sizes.{chip_voices, chip_queues}
use Rattle.decimal.specs.Written.{digits_in, decimal, render}
use Rattle.decimal.specs.Read.{natural_at, Numeral}
use Rattle.decimal.proofs.RoundTrip.{natural-back}
use Rattle.line_fields.specs.Table.{is_sample, sample_of_number}
use Rattle.line_fields.specs.Text.{field_text, part_text, parts_text, line_text, written_of, put_of}
use Rattle.tone.specs.Pcm.{is_ram_length}
use Rattle.version.specs.declared.SguVersion.{SguVersion}
use Rattle.version.specs.Versions.{version_number}
use Rattle.session_lines.specs.Head.{head_text}
use Rattle.session_lines.specs.Lines.{voice_text}
use Rattle.session_lines.specs.Numbers.{state_numbers, field_numbers}
use Rattle.s3w2.specs.Refusals.{accepts_chip}
use Rattle.s3w2.specs.declared.Chip.{Chip}
use Rattle.std.specs.Prelude.{Ok, Err}
use Rattle.s3w2.specs.declared.Refusal.TheVariants.{RamLength, QueueBuffer, NotAccepted}
use Rattle.session.specs.declared.LineRefusal.TheVariants.{OfChip}
use Rattle.session.specs.Answers.{LineAnswer, wrote, state_accepted, with_lent_queues, with_lent_ram}
use Rattle.session.proofs.Lines.{goes-on, goes_over}
use Rattle.session.specs.Heads.{write_head_answer, write_head_text, read_head_called}
use Rattle.session.specs.Voices.{line_of_voice, write_voice_answer, write_voice_text, voice_read_called, voice_read_queues}
use Rattle.log_player.specs.declared.Player.{Player}
use Rattle.log_player.specs.Steps.{first_line}
use Rattle.log_state.specs.declared.Found.TheVariants.{Line}
use Rattle.log_state.specs.Lines.{state_line, line_count, put_line_answer, put_line_text, taken_by, is_natural, own_line, take_line, take_line_queues}
use Rattle.log_state.specs.Loads.{front_line, behind_line, goes_on, read_lines}
use Rattle.log_state.specs.Finding.{sound_line, found_at}
use Rattle.std.specs.Prelude.{Some}

-- ---- a line of an accepted state is written where there is room for it
module _ (chip : Chip) (ram : ℕ) (queues : List ℤ) (r : is_ram_length ram ≡ true) (l : accepts_chip chip ram ≡ true) (a : state_accepted chip ≡ true) (q : length queues ≡ chip_queues) where
  written : (out text : List ℕ) → length text ≤ length out → (wrote (written_of out text) ≡ Ok (length text)) × (put_of out text ≡ sets out 0 text)
  written out text h = rw (le-leb (length text) (length out) h) (refl, refl)

  by_kind : (head : Bool) (out x y : List ℕ) → length (cond head x y) ≤ length out
      → (cond head (with_lent_ram chip ram (wrote (written_of out x)) (Err (OfChip NotAccepted)) (Err (OfChip RamLength))) (with_lent_queues chip queues (wrote (written_of out y)) (Err (OfChip NotAccepted)) (Err (OfChip QueueBuffer))) ≡ Ok (length (cond head x y)))
      × (cond head (with_lent_ram chip ram (put_of out x) out out) (with_lent_queues chip queues (put_of out y) out out) ≡ sets out 0 (cond head x y))
  by_kind true out x y h = (sym (goes_over chip ram _ _ _ r l) ∙ (written out x h).0, sym (goes_over chip ram _ _ _ r l) ∙ (written out x h).1)
  by_kind false out x y h = (sym (goes-on chip queues _ _ _ q a) ∙ (written out y h).0, sym (goes-on chip queues _ _ _ q a) ∙ (written out y h).1)

  pub line-put : (k : ℕ) (out : List ℕ) → length (state_line chip ram queues k) ≤ length out
      → (put_line_answer chip ram queues k out ≡ Ok (length (state_line chip ram queues k))) × (put_line_text chip ram queues k out ≡ sets out 0 (state_line chip ram queues k))
  unfolding state_line put_line_answer put_line_text write_head_answer write_head_text write_voice_answer write_voice_text
  line-put k out h = by_kind (eqb k 0) out (head_text chip.version ram) (line_of_voice chip queues (k - 1)) h

-- ---- texts without byte 10
abbrev pub Goes : List ℕ → Type 0
Goes l = (m : List ℕ) → first_line (l ++ m) ≡ l ++ first_line m

pub both : (xs ys : List ℕ) → Goes xs → Goes ys → Goes (xs ++ ys)
both xs ys f g m = ap first_line (append_assoc xs ys m) ∙ f (ys ++ m) ∙ ap (λ (l : List ℕ). xs ++ l) (g m) ∙ sym (append_assoc xs ys (first_line m))

pub one : (c : ℕ) → 10 < c → Goes (c ∷ [])
unfolding first_line
one c h m = rw (ne_eqb c 10 (λ e. absurd (omega arith)))

pub choice : (b : Bool) (xs ys : List ℕ) → Goes xs → Goes ys → Goes (cond b xs ys)
choice true xs ys f g = f
choice false xs ys f g = g

digits-go : (turns n : ℕ) → Goes (digits_in turns n)
unfolding digits_in
digits-go zero n = λ m. refl
digits-go (suc turns) n =
    choice (ltb n 10) ((48 + n) ∷ []) (digits_in turns (n / 10) ++ ((48 + n % 10) ∷ [])) (one (48 + n) (omega arith))
    (both (digits_in turns (n / 10)) ((48 + n % 10) ∷ []) (digits-go turns (n / 10)) (one (48 + n % 10) (omega arith)))

decimal-goes : (n : ℕ) → Goes (decimal n)
unfolding decimal
decimal-goes n = digits-go (suc n) n

pub render-goes : (z : ℤ) → Goes (render z)
unfolding render
render-goes (pos n) = decimal-goes n
render-goes (negsuc n) = both (45 ∷ []) (decimal (suc n)) (one 45 (omega arith)) (decimal-goes (suc n))

part-goes : (k n : ℕ) → Goes (part_text k n)
unfolding part_text field_text
part-goes k n =
    let field = choice (is_sample k) (render (sample_of_number n)) (decimal n) (render-goes (sample_of_number n)) (decimal-goes n) in
    choice (eqb k 0) (cond (is_sample k) (render (sample_of_number n)) (decimal n)) (44 ∷ cond (is_sample k) (render (sample_of_number n)) (decimal n)) field (both (44 ∷ []) (cond (is_sample k) (render (sample_of_number n)) (decimal n)) (one 44 (omega arith)) field)

parts-go : (k : ℕ) (ns : List ℕ) → Goes (parts_text k ns)
unfolding parts_text
parts-go k [] = λ m. refl
parts-go k (n ∷ ns) = both (part_text k n) (parts_text (suc k) ns) (part-goes k n) (parts-go (suc k) ns)

-- ---- a line: some text without byte 10, and then it
pub record Ended (line : List ℕ) : Type 0 where
  pub text : List ℕ
  pub whole : line ≡ text ++ (10 ∷ [])
  pub goes : Goes text

line-ended : (ns : List ℕ) → Ended (line_text ns)
unfolding line_text
line-ended ns = record { text = parts_text 0 ns; whole = refl; goes = parts-go 0 ns }

head-ended : (version : SguVersion) (ram : ℕ) → Ended (head_text version ram)
unfolding head_text
head-ended version ram =
    let d : ℕ = 48 + version_number version in
    record {
      text = 83 ∷ 51 ∷ 87 ∷ 50 ∷ 44 ∷ d ∷ 44 ∷ decimal ram;
      whole = refl;
      goes =
          both (83 ∷ []) (51 ∷ 87 ∷ 50 ∷ 44 ∷ d ∷ 44 ∷ decimal ram) (one 83 (omega arith))
          (both (51 ∷ []) (87 ∷ 50 ∷ 44 ∷ d ∷ 44 ∷ decimal ram) (one 51 (omega arith))
          (both (87 ∷ []) (50 ∷ 44 ∷ d ∷ 44 ∷ decimal ram) (one 87 (omega arith))
          (both (50 ∷ []) (44 ∷ d ∷ 44 ∷ decimal ram) (one 50 (omega arith))
          (both (44 ∷ []) (d ∷ 44 ∷ decimal ram) (one 44 (omega arith))
          (both (d ∷ []) (44 ∷ decimal ram) (one d (omega arith)) (both (44 ∷ []) (decimal ram) (one 44 (omega arith)) (decimal-goes ram)))))));
    }

voice-ended : (chip : Chip) (queues : List ℤ) (voice : ℕ) → voice < chip_voices → Ended (line_of_voice chip queues voice)
unfolding line_of_voice voice_text
voice-ended chip queues voice h = rw (lt-ltb voice chip_voices h) (line-ended _)

-- ---- where a line stands, all of it is found
module _ (line rest : List ℕ) (e : Ended line) where
  first-is : first_line (line ++ rest) ≡ e.text
  unfolding first_line
  first-is =
      ap (λ (l : List ℕ). first_line (l ++ rest)) e.whole
      ∙ ap first_line (append_assoc e.text (10 ∷ []) rest)
      ∙ e.goes (10 ∷ rest)
      ∙ append-nil e.text

  pub size : length line ≡ length e.text + 1
  size = ap length e.whole ∙ length-append e.text (10 ∷ [])

  behind : suc (length (first_line (line ++ rest))) ≡ length line
  behind = ap (λ (l : List ℕ). suc (length l)) first-is ∙ omega (arith, size)

  front-is : front_line (line ++ rest) ≡ line
  front-is = ap (λ (n : ℕ). take n (line ++ rest)) behind ∙ take-append_seam line rest

  pub behind-is : behind_line (line ++ rest) ≡ rest
  behind-is = ap (λ (n : ℕ). drop n (line ++ rest)) behind ∙ drop-append_seam line rest

  -- and one more line is read
  pub read_next : (stored : Bool) (n k : ℕ) (p : Player) (ram : ℕ) (queues : List ℤ) → (take_line stored p ram queues k line).answer ≡ Ok tt
      → read_lines stored (suc n) k p ram queues (line ++ rest) ≡ read_lines stored n (suc k) (take_line stored p ram queues k line).player ram (take_line_queues stored p queues k line) rest
  unfolding read_lines
  read_next stored n k p ram queues d =
      ap₂ (λ (x y : List ℕ). goes_on (take_line stored p ram queues k x).answer (read_lines stored n (suc k) (take_line stored p ram queues k x).player ram (take_line_queues stored p queues k x) y)) front-is behind-is
      ∙ ap (λ (a : LineAnswer (Unit {0})). goes_on a (read_lines stored n (suc k) (take_line stored p ram queues k line).player ram (take_line_queues stored p queues k line) rest)) d

  found : (at k : ℕ) → sound_line (get_or (line ++ rest) 0 0) k ≡ false → found_at (line ++ rest) at k ≡ Line (at + length line)
  unfolding found_at
  found at k s =
      rw (first-is, lt-leb (length (line ++ rest)) (length e.text) (omega (arith, length-append line rest, size)), s)
      (ap Line (omega (arith, size)))

module _ (chip : Chip) (ram : ℕ) (queues : List ℤ) (k : ℕ) where
  pub state-ended : k < line_count → Ended (state_line chip ram queues k)
  unfolding state_line
  state-ended h = go (eqb k 0) refl
    where
      go : (b : Bool) → eqb k 0 ≡ b → Ended (cond b (head_text chip.version ram) (line_of_voice chip queues (k - 1)))
      go true e = head-ended chip.version ram
      go false e = voice-ended chip queues (k - 1) (omega arith)

  pub no-sound : (rest : List ℕ) → sound_line (get_or (state_line chip ram queues k ++ rest) 0 0) k ≡ false
  unfolding state_line sound_line head_text
  no-sound rest = go (eqb k 0) refl
    where
      go : (b : Bool) → eqb k 0 ≡ b → sound_line (get_or (cond b (head_text chip.version ram) (line_of_voice chip queues (k - 1)) ++ rest) 0 0) k ≡ false
      go true e = rw e
      go false e = rw e

  pub state-found : (at : ℕ) (rest : List ℕ) → k < line_count → found_at (state_line chip ram queues k ++ rest) at k ≡ Line (at + length (state_line chip ram queues k))
  state-found at rest h = found (state_line chip ram queues k) rest (state-ended h) at k (no-sound rest)

-- ---- a line read as the voice's that its first field names
first_field : (i n : ℕ) (ns : List ℕ) → i < 2 ^ 64 → natural_at (line_text (i ∷ n ∷ ns)) 0 ≡ Some (i, 0 + length (decimal i))
unfolding line_text parts_text part_text field_text is_sample
first_field i n ns h =
    natural-back i (line_text (i ∷ n ∷ ns)) (parts_text 1 (n ∷ ns) ++ (10 ∷ [])) 0 h (append_assoc (decimal i) (parts_text 1 (n ∷ ns)) (10 ∷ [])) refl

own-text : (i n : ℕ) (ns : List ℕ) → i < 2 ^ 64 → own_line i (line_text (i ∷ n ∷ ns)) ≡ line_text (i ∷ n ∷ ns)
unfolding own_line
own-text i n ns h =
    ap (λ (t : Numeral ℕ). cond (is_natural i t) (line_text (i ∷ n ∷ ns)) []) (first_field i n ns h)
    ∙ ap (λ (b : Bool). cond b (line_text (i ∷ n ∷ ns)) []) (eq-eqb i i refl)

-- ---- the head and the voices by their lines
module _ (stored : Bool) (p : Player) (ram : ℕ) (queues : List ℤ) (text : List ℕ) where
  pub take_head : take_line stored p ram queues 0 text ≡ taken_by p (read_head_called p.chip ram text)
  unfolding take_line
  take_head = refl

  pub take-head-queues : take_line_queues stored p queues 0 text ≡ queues
  unfolding take_line_queues
  take-head-queues = refl

  pub take-voice : (i : ℕ) → take_line stored p ram queues (suc i) text ≡ taken_by p (voice_read_called stored p.chip queues (own_line i text))
  unfolding take_line
  take-voice i =
      rw (ne_eqb (suc i) 0 (λ e. absurd (omega arith))) (ap (λ (j : ℕ). taken_by p (voice_read_called stored p.chip queues (own_line j text))) (omega arith))

  pub take-voice-queues : (i : ℕ) → take_line_queues stored p queues (suc i) text ≡ voice_read_queues stored p.chip queues (own_line i text)
  unfolding take_line_queues
  take-voice-queues i =
      rw (ne_eqb (suc i) 0 (λ e. absurd (omega arith))) (ap (λ (j : ℕ). voice_read_queues stored p.chip queues (own_line j text)) (omega arith))

module _ (chip : Chip) (ram : ℕ) (queues : List ℤ) where
  pub head-line : state_line chip ram queues 0 ≡ head_text chip.version ram
  unfolding state_line
  head-line = refl

  pub voice-line : (i : ℕ) → state_line chip ram queues (suc i) ≡ line_of_voice chip queues i
  unfolding state_line
  voice-line i =
      ap (λ (b : Bool). cond b (head_text chip.version ram) (line_of_voice chip queues (suc i - 1))) (ne_eqb (suc i) 0 (λ e. absurd (omega arith)))
      ∙ ap (line_of_voice chip queues) (omega arith)

  -- the line of a voice begins with its number
  pub voice-own : (i : ℕ) → i < chip_voices → own_line i (state_line chip ram queues (suc i)) ≡ line_of_voice chip queues i
  unfolding line_of_voice voice_text field_numbers state_numbers
  voice-own i h = ap (own_line i) (voice-line i) ∙ rw (lt-ltb i chip_voices h) (own-text i _ _ (omega arith))
