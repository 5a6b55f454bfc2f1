-- What the calls' definitions say where their tests decide. Assumes nothing.
use Rattle.std.specs.Prelude.{Ok, Err, is_ok}
use Rattle.std.specs.Result.{IsErrAnd}
use Rattle.std.proofs.lemmas.Result.{err_from_is_err_and}
use mathlib.Core.Path.{◌≡◌, refl, sym, ap, ap₂, ◌∙◌}
use mathlib.Core.Bool.{Bool, true, false, cond}
use mathlib.Core.List.{List}
use Prim.Native.Nat.{ℕ, ◌+◌, ◌-◌, ◌*◌, ◌%◌}
use native.Mathlib.Omega.{arith}
use lib.Dec.{eqb}
use lib.IntN.{ℤ}
use lib.ListN.{length, take, drop}
use borrow.Author.Tests.{eq-eqb, ne_eqb, eqb-true}
use Rattle.sizes.specs.Sizes.{fifo_capacity, num_channels}
use Rattle.cores.specs.Sizes.{chip_queues}
use Rattle.num.specs.Lists.{part}
use Rattle.tone.specs.Pcm.{is_ram_length}
use Rattle.version.specs.declared.SguVersion.{SguVersion}
use Rattle.voice.proofs.Tests.{first-arm, second-arm}
use Rattle.line_fields.specs.Text.{written_of, put_of, Written}
use Rattle.session_lines.specs.Head.{read_head}
use Rattle.session_lines.specs.Lines.{voice_text, ReadVoice, voice, told_of}
use Rattle.voices.specs.Core.{channel_at}
use Rattle.s3w2.specs.declared.Refusal.{Refusal}
use Rattle.s3w2.specs.declared.Refusal.TheVariants.{RamLength, QueueBuffer, NotAccepted}
use Rattle.s3w2.specs.Answers.{Checked}
use Rattle.s3w2.specs.Refusals.{accepts_chip, refusal, ram_refusal, queues_refusal}
use Rattle.s3w2.proofs.Cases.{all_there}
use Rattle.num.proofs.Choice.{never}
use Rattle.session.specs.declared.LineRefusal.{LineRefusal}
use Rattle.s3w2.specs.declared.Chip.{Chip}
use Rattle.session.specs.declared.LineRefusal.TheVariants.{TextBuffer, Malformed, OtherLength, Queued}
use Rattle.session.specs.Answers.{LineAnswer, field_refused, voice_refused, line_answered, wrote, state_accepted, queues_lent, with_state, with_lent_queues, with_lent_ram}
use Rattle.session.specs.Heads.{version_called, head_called}
use Rattle.session.specs.Voices.{core_of, line_of_voice, write_voice_answer, write_voice_text, loaded_chip, loaded_queues, voice_called, voice_queues}
use Rattle.session.proofs.Told.{by-voice, by-fault, by-queue}
use Rattle.std.specs.Prelude.{Ok, Err}
use Rattle.line_fields.specs.declared.FieldError.{FieldError}
use Rattle.line_fields.specs.declared.RoomError.{RoomError}
use Rattle.line_fields.specs.declared.RoomError.TheVariants as room
use Rattle.line_fields.specs.declared.FieldError.TheVariants as fault
use Rattle.session_lines.specs.declared.VoiceError.{VoiceError}
use Rattle.session_lines.specs.declared.VoiceError.TheVariants as told
use Rattle.session_lines.specs.declared.SessionHead.TheVariants.{Version, Sized}

-- ---- the queue buffer, then the state
module _ {A : Type 0} (chip : Chip) (queues : List ℤ) (done not_accepted not_lent : A) where
  module _ (h : length queues ≡ chip_queues) where
    lent : with_state chip done not_accepted ≡ with_lent_queues chip queues done not_accepted not_lent
    lent = first-arm (queues_lent queues) (with_state chip done not_accepted) not_lent (eq-eqb (length queues) chip_queues h)

    pub goes-on : state_accepted chip ≡ true → done ≡ with_lent_queues chip queues done not_accepted not_lent
    goes-on e = first-arm (state_accepted chip) done not_accepted e ∙ lent

-- ---- a call that the chip turns away; `r` is the refusal as the code found it, and `f` what is made of one
abbrev why_in : Checked → Refusal
why_in (Ok x) = NotAccepted
why_in (Err why) = why

module _ {A : Type 0} (chip : Chip) (done : A) (f : Refusal → A) (r : Checked) (why : Refusal) (h : r ≡ Err why) where
  pub away-queues : (queues : List ℤ) → r ≡ queues_refusal chip (length queues) → f why ≡ with_lent_queues chip queues done (f NotAccepted) (f QueueBuffer)
  unfolding refusal
  away-queues queues e = go (queues_lent queues) (state_accepted chip) (sym e ∙ h)
    where
      go : (a b : Bool) → refusal true a b true ≡ Err why → f why ≡ cond a (cond b done (f NotAccepted)) (f QueueBuffer)
      go true true k = never (ap is_ok k)
      go true false k = ap (λ (x : Checked). f (why_in x)) (sym k)
      go false b k = ap (λ (x : Checked). f (why_in x)) (sym k)

  pub away-ram : (ram : ℕ) → r ≡ ram_refusal chip ram → f why ≡ with_lent_ram chip ram done (f NotAccepted) (f RamLength)
  unfolding refusal
  away-ram ram e = go (is_ram_length ram) (accepts_chip chip ram) (sym e ∙ h)
    where
      go : (a b : Bool) → refusal a true b true ≡ Err why → f why ≡ cond a (cond b done (f NotAccepted)) (f RamLength)
      go true true k = never (ap is_ok k)
      go true false k = ap (λ (x : Checked). f (why_in x)) (sym k)
      go false b k = ap (λ (x : Checked). f (why_in x)) (sym k)

-- a refusal as `?` hands it on
pub handed : {A : Type 0} (given : LineAnswer A) (why : LineRefusal) → IsErrAnd given (λ x. x ≡ why) → given ≡ Err why
handed given why k =
    let p = err_from_is_err_and given k in
    p.1 ∙ ap (λ (x : LineRefusal). Err x) p.2

pub no-room : (w : Written) (e : RoomError) → w ≡ Err e → Err TextBuffer ≡ wrote w
no-room w room.TextBuffer h = sym (ap wrote h)

-- ---- what a call that goes on is lent
pub on-ram : (chip : Chip) (ram : ℕ) (r : Checked) → r ≡ ram_refusal chip ram → is_ok r ≡ true → (is_ram_length ram ≡ true) × (accepts_chip chip ram ≡ true)
on-ram chip ram r e h = let t = all_there (is_ram_length ram) true (accepts_chip chip ram) true r e h in (t.allowed, t.accepted)

pub on-queues : (chip : Chip) (queues : List ℤ) (r : Checked) → r ≡ queues_refusal chip (length queues) → is_ok r ≡ true → (length queues ≡ chip_queues) × (state_accepted chip ≡ true)
on-queues chip queues r e h = let t = all_there true (queues_lent queues) (state_accepted chip) true r e h in (eqb-true (length queues) chip_queues t.lent, t.accepted)

-- ---- the RAM's length, then the state
module _ {A : Type 0} (chip : Chip) (ram : ℕ) (done not_accepted not_lent : A) where
  module _ (h : is_ram_length ram ≡ true) where
    lent-ram : cond (accepts_chip chip ram) done not_accepted ≡ with_lent_ram chip ram done not_accepted not_lent
    lent-ram = first-arm (is_ram_length ram) (cond (accepts_chip chip ram) done not_accepted) not_lent h

    pub goes_over : accepts_chip chip ram ≡ true → done ≡ with_lent_ram chip ram done not_accepted not_lent
    goes_over e = first-arm (accepts_chip chip ram) done not_accepted e ∙ lent-ram

-- ---- a head
module _ (chip : Chip) (ram : ℕ) (text : List ℕ) where
  pub head-set : (version : SguVersion) → read_head text ≡ Ok (Version version) → version_called chip version ≡ head_called chip ram (read_head text)
  head-set version e = sym (ap (head_called chip ram) e)

  pub head-other : (version : SguVersion) (size : ℕ) → read_head text ≡ Ok (Sized version size) → (size ≡ ram → ⊥) → line_answered chip (Err OtherLength) ≡ head_called chip ram (read_head text)
  head-other version size e h = second-arm (eqb size ram) (version_called chip version) (line_answered chip (Err OtherLength)) (ne_eqb size ram h) ∙ sym (ap (head_called chip ram) e)

  pub head-sized : (version : SguVersion) (size : ℕ) → read_head text ≡ Ok (Sized version size) → size ≡ ram → version_called chip version ≡ head_called chip ram (read_head text)
  head-sized version size e h = first-arm (eqb size ram) (version_called chip version) (line_answered chip (Err OtherLength)) (eq-eqb size ram h) ∙ sym (ap (head_called chip ram) e)

  pub head-fault : (x : FieldError) → read_head text ≡ Err x → line_answered chip (Err (field_refused x)) ≡ head_called chip ram (read_head text)
  head-fault (fault.Malformed field) e = sym (ap (head_called chip ram) e)

-- ---- a voice line written
module _ (chip : Chip) (queues : List ℤ) (number : ℕ) where
  abbrev ch : ℕ
  ch = number % num_channels

  pub own-line : (w : List ℕ) → w ≡ part (core_of chip number).wavetables (ch * 256) (ch * 256 + 256 - ch * 256)
      → voice_text number (channel_at (core_of chip number) ch) w (take (number * fifo_capacity + fifo_capacity - number * fifo_capacity) (drop (number * fifo_capacity) queues)) ≡ line_of_voice chip queues number
  unfolding line_of_voice
  own-line w e =
      let m : ch * 256 + 256 - ch * 256 ≡ 256 = omega arith in
      let n : number * fifo_capacity + fifo_capacity - number * fifo_capacity ≡ fifo_capacity = omega arith in
      ap₂ (λ (x : List ℕ) (y : List ℤ). voice_text number (channel_at (core_of chip number) ch) x y) (e ∙ ap (part (core_of chip number).wavetables (ch * 256)) m) (ap (part queues (number * fifo_capacity)) n)

  module _ (out text : List ℕ) (is : text ≡ line_of_voice chip queues number) (lent : length queues ≡ chip_queues) (ok : state_accepted chip ≡ true) where
    pub line-answer : (w : Written) → w ≡ written_of out text → wrote w ≡ write_voice_answer chip queues number out
    unfolding write_voice_answer
    line-answer w e = ap wrote (e ∙ ap (written_of out) is) ∙ goes-on chip queues _ _ _ lent ok

    pub line-text : (after : List ℕ) → after ≡ put_of out text → after ≡ write_voice_text chip queues number out
    unfolding write_voice_text
    line-text after e = e ∙ ap (put_of out) is ∙ goes-on chip queues _ _ _ lent ok

-- ---- a voice line read
module _ (r : ReadVoice) (number : ℕ) (e : told_of r ≡ Ok number) where
  pub voice-called : (chip : Chip) → line_answered (loaded_chip chip number r) (Ok tt) ≡ voice_called chip r
  voice-called chip =
      by-voice (λ (x : ReadVoice). line_answered (loaded_chip chip number x) (Ok tt) ≡ voice_called chip x) r number e
      (λ v q. ap (λ (n : ℕ). line_answered (loaded_chip chip n (voice v)) (Ok tt)) (sym q))

  pub voice-queues : (queues : List ℤ) → loaded_queues queues number r ≡ voice_queues queues r
  voice-queues queues =
      by-voice (λ (x : ReadVoice). loaded_queues queues number x ≡ voice_queues queues x) r number e (λ v q. ap (λ (n : ℕ). loaded_queues queues n (voice v)) (sym q))

pub refused-called : (r : ReadVoice) (x : VoiceError) → told_of r ≡ Err x → (chip : Chip) → line_answered chip (Err (voice_refused x)) ≡ voice_called chip r
refused-called r (told.Malformed field) e chip = by-fault (λ (v : ReadVoice). line_answered chip (Err (Malformed field)) ≡ voice_called chip v) r field e refl
refused-called r told.Queued e chip = by-queue (λ (v : ReadVoice). line_answered chip (Err Queued) ≡ voice_called chip v) r e refl

pub refused-queues : (r : ReadVoice) (x : VoiceError) → told_of r ≡ Err x → (queues : List ℤ) → queues ≡ voice_queues queues r
refused-queues r (told.Malformed field) e queues = by-fault (λ (v : ReadVoice). queues ≡ voice_queues queues v) r field e refl
refused-queues r told.Queued e queues = by-queue (λ (v : ReadVoice). queues ≡ voice_queues queues v) r e refl
