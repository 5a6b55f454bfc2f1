-- Each call on a session's line on a good world is the list's call. Assumes nothing.
use mathlib.Core.Path.{◌≡◌, refl, sym, ap, ◌∙◌, subst}
use mathlib.Core.Bool.{Bool, true, false, cond}
use mathlib.Core.List.{List, [], ◌∷◌}
use Prim.Native.Nat.{ℕ, ◌/◌, ◌%◌, ◌<◌, ◌≤◌}
use native.Mathlib.Omega.{arith}
use native.Mathlib.Decide.{dec_lt}
use lib.Dec.{eqb, leb}
use lib.IntN.{ℤ}
use lib.ListN.{length, get_or}
use lib.Seq.{sets}
use borrow.Author.Tests.{le-ltb}
use Rattle.sizes.specs.Sizes.{num_channels}
use Rattle.cores.specs.Sizes.{num_cores, chip_voices}
use Rattle.line_fields.specs.Text.{written_of, put_of, line_text}
use Rattle.version.specs.declared.SguVersion.{SguVersion}
use Rattle.session_lines.specs.Numbers.{field_numbers}
use Rattle.session_lines.specs.Lines.{NumberedVoice, voice_text, ReadVoice, voice, malformed, queued, read_as, channel_after, table_after}
use Rattle.session_lines.proofs.Taken.{read_told}
use Rattle.session_lines.specs.Head.{head_text, read_head, HeadLine}
use Rattle.voice.specs.declared.Channel.{Channel}
use Rattle.voices.specs.Core.{channel_at}
use Rattle.voices.specs.Own as own
use Rattle.voices.specs.declared.Core.{Core}
use Rattle.s3w2.specs.declared.Chip.{Chip}
use Rattle.s3w2.specs.Chips.{core_at, core_queues}
use Rattle.s3w2.specs.declared.Refusal.TheVariants.{RamLength, NotAccepted, QueueBuffer}
use Rattle.session.specs.declared.LineRefusal.TheVariants.{OfChip}
use Rattle.session.specs.declared.LineCalled.{LineCalled}
use Rattle.session.specs.Answers as answers
use Rattle.session.specs.Heads.{write_head_answer, write_head_text, version_called, head_called, read_head_called}
use Rattle.session.specs.Voices.{table_at, line_of_voice, write_voice_answer, write_voice_text, loaded_core, loaded_queues, voice_called, voice_queues, voice_read_called, voice_read_queues, read_voice_called, read_voice_queues, read_stored_voice_called, read_stored_voice_queues}
use Rattle.session.proofs.Lines.{goes-on, goes_over}
use Rattle.session.proofs.Loaded.{loaded-changed, queue-here, queues-apart, queue-own, queue-others, length-loaded}
use Rattle.slots.specs.Slots.{Slot, empty_slot, plain_of, channel_with, slot_loaded}
use Rattle.slots.specs.Models.{slots, SlotPair}
use Rattle.plain_chip.specs.Chips as chips
use Rattle.pair_chip.specs.Pairs.{on_all, fields_at}
use Rattle.chip_as_slots.specs.Whole.{slot_with, slot_at, slots_of, slot_chip_of}
use Rattle.chip_as_slots.proofs.Puts.{slot-at, one-changed}
use Rattle.chip_as_slots.proofs.Pairs.{core-slots, core-changed}
use Rattle.call_lists.specs.Runs.{Outcome}
use Rattle.call_lists.specs.Texts.{Told}
use Rattle.call_lists.specs.Calls as list
use Rattle.call_lists.specs.Calls.{Call, run}
use Rattle.session_texts.specs.Session.{session, plain_voice_of, plain_text, head_read, voice_read}
use Rattle.session_texts.proofs.Written.{text-plain}
use Rattle.session_texts.proofs.Read.{channel-told, loaded-told, session-is-ok}
use Rattle.chip_calls.specs.Ties.{slot_pair, GoodMachine, wrote_by, read_by}
use Rattle.chip_calls.proofs.Accepting.{core-good, accepts, state-accepted}
use Rattle.chip_calls.proofs.Calls.{Agrees, sized-put, stays, tied-version}
use Rattle.std.specs.Prelude.{Ok, Err}
use Rattle.session_lines.specs.declared.SessionHead.TheVariants.{Version, Sized}
use Rattle.line_fields.specs.declared.FieldError.TheVariants.{Malformed}
use Rattle.line_fields.specs.declared.RoomError.TheVariants.{TextBuffer}

no-line : (v : ℕ) (c : Channel) (wavetable : List ℕ) (q : List ℤ) → chip_voices ≤ v → voice_text v c wavetable q ≡ []
unfolding voice_text
no-line v c wavetable q h = ap (λ (b : Bool). cond b (line_text (field_numbers v c wavetable q)) []) (le-ltb v chip_voices h)

module _ (chip : Chip) (ram : List ℕ) (queues : List ℤ) (held : GoodMachine chip ram queues) where
  abbrev w : SlotPair
  w = slot_pair chip ram queues

  abbrev version : SguVersion
  version = chip.version

  abbrev ran : Call → Outcome SlotPair list.CallAnswer
  ran c = run slots session w c

  -- ---- what a call asks for is there
  with-ram : {A : Type 0} (done not_accepted not_lent : A) → answers.with_lent_ram chip (length ram) done not_accepted not_lent ≡ done
  with-ram done not_accepted not_lent = sym (goes_over chip (length ram) done not_accepted not_lent held.allowed (accepts chip ram queues held (length ram) (omega arith)))

  with-queues : {A : Type 0} (done not_accepted not_lent : A) → answers.with_lent_queues chip queues done not_accepted not_lent ≡ done
  with-queues done not_accepted not_lent = sym (goes-on chip queues done not_accepted not_lent held.long (state-accepted chip ram queues held))

  -- ---- a line written to a lent text
  writes : (text out : List ℕ) → Agrees (wrote_by chip ram queues (answers.wrote (written_of out text)) (put_of out text)) (list.gives slots session w (list.line_answer text out))
  writes text out = go (leb (length text) (length out))
    where
      go : (b : Bool) → Agrees (wrote_by chip ram queues (answers.wrote (cond b (Ok (length text)) (Err TextBuffer))) (cond b (sets out 0 text) out))
          (list.gives slots session w (cond b (record { reply = list.count (length text); sides = []; text = sets out 0 text; values = [] }) (record { reply = list.refused (15 ∷ []); sides = []; text = out; values = [] })))
      go true = stays session chip ram queues held _ _ refl refl
      go false = stays session chip ram queues held _ _ refl refl

  wrote_as : (a b : answers.LineAnswer ℕ) (x y : List ℕ) (z : Outcome SlotPair list.CallAnswer) → a ≡ b → x ≡ y → Agrees (wrote_by chip ram queues b y) z → Agrees (wrote_by chip ram queues a x) z
  wrote_as a b x y z e f t = subst (λ (p : List ℕ). Agrees (wrote_by chip ram queues a p) z) (sym f) (subst (λ (c : answers.LineAnswer ℕ). Agrees (wrote_by chip ram queues c y) z) (sym e) t)

  pub tied-write-head : (out : List ℕ) → Agrees (wrote_by chip ram queues (write_head_answer chip (length ram) out) (write_head_text chip (length ram) out)) (ran (list.write_head out))
  unfolding write_head_answer write_head_text run
  tied-write-head out = wrote_as _ _ _ _ _ (with-ram _ (Err (OfChip NotAccepted)) (Err (OfChip RamLength))) (with-ram _ out out) (writes (head_text version (length ram)) out)

  -- the line of a voice is that of its session's fields; one above 15 has none
  module _ (v : ℕ) where
    abbrev k : ℕ
    k = v / num_channels

    abbrev ch : ℕ
    ch = v % num_channels

    abbrev here : Slot
    here = slot_at (core_at chip k) (core_queues k queues) ch

    fields-here : v < chip_voices → plain_of here ≡ fields_at slots w k ch
    fields-here h = ap plain_of (sym (ap (λ (l : List Slot). get_or l ch empty_slot) (core-slots version chip.cores ram queues k (omega arith)) ∙ slot-at (core_at chip k) (core_queues k queues) ch (omega arith)))

    pub line_same : line_of_voice chip queues v ≡ plain_text v (fields_at slots w k ch)
    unfolding line_of_voice
    line_same = elim (dec_lt v 16) [
      | yes h ↦ ap (voice_text v (channel_at (core_at chip k) ch) (table_at (core_at chip k) ch)) (queue-here queues v)
          ∙ text-plain version ram here (core-good chip ram queues held k (omega arith) ch (omega arith)) v ∙ ap (plain_text v) (fields-here h)
      | no h ↦ no-line v _ _ _ (omega arith) ∙ sym (no-line v _ _ _ (omega arith))
    ]

  pub tied-write-voice : (v : ℕ) (out : List ℕ) → Agrees (wrote_by chip ram queues (write_voice_answer chip queues v out) (write_voice_text chip queues v out)) (ran (list.write_voice v out))
  unfolding write_voice_answer write_voice_text run
  tied-write-voice v out =
      wrote_as _ _ _ _ _
      (with-queues (answers.wrote (written_of out (line_of_voice chip queues v))) (Err (OfChip NotAccepted)) (Err (OfChip QueueBuffer)) ∙ ap (λ (l : List ℕ). answers.wrote (written_of out l)) (line_same v))
      (with-queues (put_of out (line_of_voice chip queues v)) out out ∙ ap (put_of out) (line_same v))
      (writes (plain_text v (fields_at slots w (v / num_channels) (v % num_channels))) out)

  -- ---- a line read
  read-as : (a b : LineCalled) (p q : List ℤ) (z : Outcome SlotPair list.CallAnswer) → a ≡ b → p ≡ q → Agrees (read_by b ram q) z → Agrees (read_by a ram p) z
  read-as a b p q z e f t = subst (λ (l : List ℤ). Agrees (read_by a ram l) z) (sym f) (subst (λ (c : LineCalled). Agrees (read_by c ram q) z) (sym e) t)

  either : (b : Bool) (x y : LineCalled) (z u : Outcome SlotPair list.CallAnswer) → Agrees (read_by x ram queues) z → Agrees (read_by y ram queues) u → Agrees (read_by (cond b x y) ram queues) (cond b z u)
  either true x y z u s t = s
  either false x y z u s t = t

  set_told : (other : SguVersion) → Agrees (read_by (version_called chip other) ram queues) (list.gives slots session (on_all (chips.set_version slots other) w) (list.replies list.done))
  unfolding run
  set_told other = let t = tied-version session chip ram queues held other in record { next = t.next; answer = refl; allowed = t.allowed; sized = t.sized; long = t.long }

  head-told : (r : HeadLine) → Agrees (read_by (head_called chip (length ram) r) ram queues) (list.head_told slots session w (head_read r))
  head-told (Ok (Version other)) = set_told other
  head-told (Ok (Sized other size)) = either (eqb size (length ram)) _ _ _ _ (set_told other) (stays session chip ram queues held _ _ refl refl)
  head-told (Err (Malformed field)) = stays session chip ram queues held _ _ refl refl

  pub tied-read-head : (text : List ℕ) → Agrees (read_by (read_head_called chip (length ram) text) ram queues) (ran (list.read_head text))
  unfolding read_head_called run
  tied-read-head text =
      read-as _ _ queues queues _ (with-ram _ (answers.line_answered chip (Err (OfChip NotAccepted))) (answers.line_answered chip (Err (OfChip RamLength)))) refl (head-told (read_head text))

  -- the voice that a line names
  module _ (v : NumberedVoice) (here : v.number < chip_voices) (is : v.channel ≡ channel_with (plain_voice_of v)) where
    abbrev i : ℕ
    i = v.number / num_channels

    abbrev j : ℕ
    j = v.number % num_channels

    there : i < num_cores
    there = omega (arith, here)

    abbrev core : Core
    core = core_at chip i

    abbrev s : Slot
    s = slot_at core (core_queues i queues) j

    abbrev r : ReadVoice
    r = voice v

    abbrev after : List ℤ
    after = loaded_queues queues v.number r

    slots-loaded : slots_of (loaded_core core j r) (core_queues i after) ≡ (chips.load_voice slots j (plain_voice_of v) (slot_chip_of version core ram (core_queues i queues))).voices
    slots-loaded =
        one-changed core (core_queues i queues) (core_queues i after) (slot_loaded (plain_voice_of v)) (omega arith) (loaded-changed r j (omega arith) core (held.sized.each i there)) (queue-others r v.number here queues held.long)
        (ap (slot_with (own.voice (channel_after r s.channel) s.fragments (table_after r s.wavetable))) (queue-own r v.number here queues held.long) ∙ loaded-told v s is)

    voice-loaded : Agrees (read_by (voice_called chip r) ram (voice_queues queues r)) (list.voice_told slots session w (voice_read r))
    voice-loaded = record {
      next = core-changed version chip.cores ram queues held.sized.two i there (loaded_core core j r) after (chips.load_voice slots j (plain_voice_of v)) (queues-apart r v.number here queues held.long) (λ e. record { version = version; ram = ram; voices = slots-loaded e });
      answer = refl;
      allowed = held.allowed;
      sized = sized-put chip held.sized i (loaded_core core j r) (loaded-changed r j (omega arith) core (held.sized.each i there)).sized;
      long = length-loaded r v.number here queues ∙ held.long;
    }

  voice-told : (r : ReadVoice) → Told version (voice_read r) → ((v : NumberedVoice) → r ≡ voice v → v.channel ≡ channel_with (plain_voice_of v))
      → Agrees (read_by (voice_called chip r) ram (voice_queues queues r)) (list.voice_told slots session w (voice_read r))
  voice-told (voice v) t is = voice-loaded v t.0 (is v refl)
  voice-told (malformed field) t is = stays session chip ram queues held _ _ refl refl
  voice-told queued t is = stays session chip ram queues held _ _ refl refl

  -- as a stored line or as any
  tied-read : (stored : Bool) (text : List ℕ) → Told version (voice_read (read_as stored version text)) → Agrees (read_by (voice_read_called stored chip queues text) ram (voice_read_queues stored chip queues text)) (list.voice_told slots session w (voice_read (read_as stored version text)))
  unfolding voice_read_called voice_read_queues
  tied-read stored text t =
      read-as _ _ _ _ _ (with-queues _ (answers.line_answered chip (Err (OfChip NotAccepted))) (answers.line_answered chip (Err (OfChip QueueBuffer)))) (with-queues _ queues queues)
      (voice-told (read_as stored version text) t (λ v e. channel-told version v (read_told stored version text v e)))

  pub tied-read-voice : (text : List ℕ) → Agrees (read_by (read_voice_called chip queues text) ram (read_voice_queues chip queues text)) (ran (list.read_voice text))
  unfolding run
  tied-read-voice text = tied-read false text (session-is-ok.told version text)

  pub tied-read-stored-voice : (text : List ℕ) → Agrees (read_by (read_stored_voice_called chip queues text) ram (read_stored_voice_queues chip queues text)) (ran (list.read_stored_voice text))
  unfolding run
  tied-read-stored-voice text = tied-read true text (session-is-ok.stored-told version text)
