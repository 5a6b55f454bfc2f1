-- A session's call leaves an accepted state accepted. Assumes nothing beyond the ranges that the types give.
use Rattle.std.specs.Prelude.{Err}
use mathlib.Core.Path.{◌≡◌, refl, ap, ◌∙◌}
use mathlib.Core.Bool.{Bool, true, false, cond}
use mathlib.Core.List.{List}
use Prim.Native.Nat.{ℕ, ◌/◌, ◌%◌, ◌<◌}
use native.Mathlib.Omega.{arith}
use lib.Dec.{eqb}
use lib.IntN.{ℤ}
use lib.ListN.{length}
use lib.Seq.{get_or-set_same, get_or-set_other}
use borrow.Author.Tests.{eqb-true, eqb-false}
use Rattle.sizes.specs.Sizes.{num_channels}
use Rattle.cores.specs.Sizes.{num_cores}
use Rattle.num.proofs.Choice.{cond-by}
use Rattle.tone.specs.Pcm.{is_ram_length}
use Rattle.session_lines.specs.Head.{read_head, HeadLine}
use Rattle.session_lines.specs.Lines.{NumberedVoice, ReadVoice, voice, malformed, queued, read_as}
use Rattle.session_lines.proofs.Taken.{Told, read_told}
use Rattle.voices.specs.Accepted.{accepts_core, AcceptedCore}
use Rattle.voices.specs.declared.Core.{Core}
use Rattle.voices.proofs.Accepting.{core-accepted, one_kept}
use Rattle.s3w2.specs.Refusals.{accepts_chip}
use Rattle.s3w2.specs.declared.Chip.{Chip}
use Rattle.s3w2.specs.Chips.{core_at, with_core_at, no_core}
use Rattle.s3w2.proofs.Fits.{SizedCores, core-accepts, accepted-at, chip-accepts}
use Rattle.s3w2.proofs.Kept.{set-version-kept}
use Rattle.session.specs.declared.LineCalled.{LineCalled}
use Rattle.s3w2.specs.declared.Refusal.TheVariants.{RamLength, QueueBuffer, NotAccepted}
use Rattle.session.specs.declared.LineRefusal.TheVariants.{OfChip, OtherLength}
use Rattle.session.specs.Answers.{line_answered, state_accepted, queues_lent, with_state}
use Rattle.session.specs.Heads.{version_called, head_called, read_head_called}
use Rattle.session.specs.Voices.{core_of, loaded_core, loaded_chip, voice_called, voice_read_called}
use Rattle.session.proofs.Loaded.{loaded-changed}
use Rattle.std.specs.Prelude.{Ok, Err}
use Rattle.session_lines.specs.declared.SessionHead.TheVariants.{Version, Sized}
use Rattle.line_fields.specs.declared.FieldError.TheVariants.{Malformed}

-- n is the length of the RAM that the chip is played over
module _ (chip : Chip) (n : ℕ) (ok : accepts_chip chip n ≡ true) (two : length chip.cores ≡ num_cores) (sized : SizedCores chip) where
  abbrev fine : LineCalled → Type 0
  fine x = accepts_chip x.chip n ≡ true

  head-kept : (h : HeadLine) → accepts_chip (head_called chip n h).chip n ≡ true
  head-kept (Ok (Version version)) = set-version-kept chip n ok sized version
  head-kept (Ok (Sized version size)) = cond-by fine (eqb size n) (version_called chip version) (line_answered chip (Err OtherLength)) (λ e. set-version-kept chip n ok sized version) (λ e. ok)
  head-kept (Err (Malformed field)) = ok

  pub read-head-kept : (text : List ℕ) → accepts_chip (read_head_called chip n text).chip n ≡ true
  unfolding read_head_called
  read-head-kept text =
      cond-by fine (is_ram_length n) (cond (accepts_chip chip n) (head_called chip n (read_head text)) (line_answered chip (Err (OfChip NotAccepted)))) (line_answered chip (Err (OfChip RamLength)))
      (λ e. cond-by fine (accepts_chip chip n) (head_called chip n (read_head text)) (line_answered chip (Err (OfChip NotAccepted))) (λ e. head-kept (read_head text)) (λ e. ok))
      (λ e. ok)

  -- one core changed
  core-kept : (k : ℕ) → k < num_cores → (core : Core) → AcceptedCore core chip.version n → accepts_chip (with_core_at chip k core) n ≡ true
  core-kept k h core a = chip-accepts (with_core_at chip k core) n (λ j l. at j l (eqb j k) refl)
    where
      own : core_at (with_core_at chip k core) k ≡ core
      own = get_or-set_same chip.cores k core no_core (omega (arith, h, two))

      at : (j : ℕ) → j < num_cores → (t : Bool) → eqb j k ≡ t → accepts_core (core_at (with_core_at chip k core) j) chip.version n ≡ true
      at j l true e = ap (λ (c : Core). accepts_core c chip.version n) (ap (core_at (with_core_at chip k core)) (eqb-true j k e) ∙ own) ∙ core-accepted core chip.version n a
      at j l false e = ap (λ (c : Core). accepts_core c chip.version n) (get_or-set_other chip.cores k j core no_core (eqb-false j k e)) ∙ core-accepts chip n ok j l

  voice-kept : (v : NumberedVoice) → Told chip.version v → accepts_chip (loaded_chip chip v.number (voice v)) n ≡ true
  voice-kept v r =
      let k = v.number / num_channels in
      let ch = v.number % num_channels in
      let core = core_of chip v.number in
      let h : k < num_cores = omega (arith, r.named) in
      core-kept k h (loaded_core core ch (voice v)) (one_kept core chip.version n (accepted-at chip n sized ok k h) (loaded-changed (voice v) ch (omega arith) core (sized k h)) (r.accepted n))

  line_kept : (r : ReadVoice) → ((v : NumberedVoice) → r ≡ voice v → Told chip.version v) → accepts_chip (voice_called chip r).chip n ≡ true
  line_kept (voice v) f = voice-kept v (f v refl)
  line_kept (malformed field) f = ok
  line_kept queued f = ok

  -- also where it is read as a stored line
  pub read-voice-kept : (stored : Bool) (queues : List ℤ) (text : List ℕ) → accepts_chip (voice_read_called stored chip queues text).chip n ≡ true
  unfolding voice_read_called
  read-voice-kept stored queues text =
      let r = read_as stored chip.version text in
      cond-by fine (queues_lent queues) (with_state chip (voice_called chip r) (line_answered chip (Err (OfChip NotAccepted)))) (line_answered chip (Err (OfChip QueueBuffer)))
      (λ e. cond-by fine (state_accepted chip) (voice_called chip r) (line_answered chip (Err (OfChip NotAccepted))) (λ e. line_kept r (read_told stored chip.version text)) (λ e. ok))
      (λ e. ok)
