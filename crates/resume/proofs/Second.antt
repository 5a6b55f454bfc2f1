-- A second chip in any accepted state that reads a session. Assumes nothing.
use Rattle.std.specs.Prelude.{Ok, Err}
use mathlib.Core.Path.{◌≡◌, sym, ap, ◌∙◌, subst}
use mathlib.Core.Bool.{true}
use mathlib.Core.List.{List, map}
use Prim.Native.Nat.{ℕ, zero, suc, ◌<◌}
use native.Mathlib.Omega.{arith}
use lib.ListN.{length}
use Rattle.sizes.specs.Sizes.{ram_most}
use Rattle.cores.specs.Sizes.{num_cores}
use Rattle.tone.specs.Pcm.{is_ram_length}
use Rattle.version.specs.declared.SguVersion.{SguVersion}
use Rattle.session_lines.specs.Head.{head_text}
use Rattle.session_lines.specs.Head as heads
use Rattle.session_lines.proofs.Heads.{head-back}
use Rattle.voices.specs.Core.{set_core_version}
use Rattle.voices.specs.declared.Core.{Core}
use Rattle.voices.proofs.Voices.{version-changed}
use Rattle.s3w2.specs.declared.Chip.{Chip}
use Rattle.s3w2.specs.declared.Returned.TheVariants.{Done}
use Rattle.s3w2.specs.Answers.{Checked, answered, called}
use Rattle.s3w2.specs.Chips.{core_at, core_queues}
use Rattle.s3w2.specs.Refusals.{accepts_chip}
use Rattle.s3w2.specs.Fresh.{under_version, set_version_called}
use Rattle.session.specs.declared.LineCalled.{LineCalled}
use Rattle.s3w2.specs.declared.Refusal.TheVariants.{RamLength, NotAccepted}
use Rattle.session.specs.declared.LineRefusal.TheVariants.{OfChip}
use Rattle.session.specs.Answers as answers
use Rattle.session.specs.Heads.{head_called, read_head_called}
use Rattle.session.proofs.Lines.{goes_over, head-sized}
use Rattle.slots.specs.Models.{slots, SlotPair}
use Rattle.slots.specs.Good.{SlotPairOk}
use Rattle.plain_chip.specs.Chips as chips
use Rattle.pair_chip.specs.Pairs.{on_all}
use Rattle.pair_chip.proofs.Pairs.{alike-set-version}
use Rattle.chip_as_slots.specs.Whole.{slot_chip_of}
use Rattle.chip_as_slots.proofs.Stores.{world-version}
use Rattle.chip_as_slots.proofs.Pairs.{cores-put}
use Rattle.call_lists.specs.Runs.{after}
use Rattle.call_lists.specs.Calls.{read_head, read_voice, run}
use Rattle.call_lists.specs.Seen as calls
use Rattle.call_lists.specs.Second as reads
use Rattle.call_lists.specs.Second.{Accepted}
use Rattle.call_lists.proofs.Resumes.{fit-lines, head-read, headed-good}
use Rattle.session_texts.specs.Session.{session}
use Rattle.session_texts.proofs.Read.{session-is-ok}
use Rattle.chip_calls.specs.Ties.{SizedChip, Machine}
use Rattle.chip_calls.specs.Code.{code}
use Rattle.chip_calls.proofs.Accepting.{accepts-largest, state-none}
use Rattle.chip_calls.proofs.Calls.{sized-two}
use Rattle.chip_calls.proofs.Made.{accepted-world, typed-sized}
use Rattle.resume.specs.Stops.{seen, resumed, Second, slot_pair_in}
use Rattle.resume.proofs.Steps.{HeldMachine, held_after, world-after, seen_same}

module _ (first second : Machine) (h : HeldMachine first) (s : Second first second) where
  abbrev version : SguVersion
  version = first.chip.version

  pub accepted : Accepted (slot_pair_in second)
  accepted = accepted-world second.chip second.ram second.queues s.accepted s.long s.typed

  sized : SizedChip second.chip
  sized = typed-sized second.chip second.ram second.queues s.accepted s.long s.typed

  allowed : is_ram_length (length second.ram) ≡ true
  allowed = ap (λ (l : List ℕ). is_ram_length (length l)) s.copy ∙ h.allowed

  state : accepts_chip second.chip ram_most ≡ true
  state = accepts-largest second.chip second.ram allowed sized s.accepted

  -- the head is read
  abbrev pub headed_chip : Chip
  headed_chip = under_version second.chip version

  abbrev size : ℕ
  size = length first.ram

  pub head-called : read_head_called second.chip (length second.ram) (head_text version size) ≡ answers.line_answered headed_chip (Ok tt)
  unfolding read_head_called set_version_called
  head-called =
      sym (goes_over second.chip (length second.ram) (head_called second.chip (length second.ram) (heads.read_head (head_text version size))) (answers.line_answered second.chip (Err (OfChip NotAccepted))) (answers.line_answered second.chip (Err (OfChip RamLength))) allowed s.accepted)
      ∙ sym (head-sized second.chip (length second.ram) (head_text version size) version size (head-back version size h.allowed) (ap length (sym s.copy)))
      ∙ ap (λ (r : Checked). answers.line_answered (called r second.chip (answered headed_chip (Ok Done))).chip (Ok tt)) (state-none second.chip state)

  abbrev pub headed : Machine
  headed = record { chip = headed_chip; ram = second.ram; queues = second.queues }

  headed-is : (code second (read_head (head_text version size))).next ≡ headed
  unfolding code
  headed-is = ap (λ (c : LineCalled). record { chip = c.chip; ram = second.ram; queues = second.queues }) head-called

  abbrev core : ℕ → Core
  core k = core_at second.chip k

  headed-core : (k : ℕ) → k < num_cores → slot_chip_of version (core_at headed_chip k) second.ram (core_queues k second.queues) ≡ chips.set_version slots version (slot_chip_of second.chip.version (core k) second.ram (core_queues k second.queues))
  headed-core zero h = world-version (core 0) (core_queues 0 second.queues) (sized.each 0 h) second.chip.version version second.ram
  headed-core (suc zero) h = world-version (core 1) (core_queues 1 second.queues) (sized.each 1 h) second.chip.version version second.ram
  headed-core (suc (suc k)) h = absurd (omega arith)

  headed-world : slot_pair_in headed ≡ on_all (chips.set_version slots version) (slot_pair_in second)
  headed-world =
      cores-put second.chip.version second.chip.cores second.ram second.queues (chips.set_version slots version) (alike-set-version slots version) version headed_chip.cores second.ram headed-core

  pub headed-held : HeldMachine headed
  headed-held = record {
    allowed = allowed;
    sized = sized-two version (set_core_version (core 0) version) (set_core_version (core 1) version) (version-changed (core 0) (sized.each 0 (omega arith)) version).sized (version-changed (core 1) (sized.each 1 (omega arith)) version).sized;
    long = s.long;
    good = subst SlotPairOk (sym headed-world) (headed-good session session-is-ok (slot_pair_in first) (slot_pair_in second) h.good accepted s.copy h.allowed);
  }

  pub read-on : resumed second (seen first) ≡ after code headed (map read_voice (seen first).lines)
  read-on = ap (λ (m : Machine). after code m (map read_voice (seen first).lines)) headed-is

  pub resumed-held : HeldMachine (resumed second (seen first))
  resumed-held = subst HeldMachine (sym read-on) (held_after headed (map read_voice (seen first).lines) headed-held (fit-lines (seen first).lines))

  pub resumed-world : slot_pair_in (resumed second (seen first)) ≡ reads.slot_resumed session (slot_pair_in second) (calls.seen_over slots session (slot_pair_in first))
  resumed-world =
      ap slot_pair_in read-on
      ∙ world-after headed (map read_voice (seen first).lines) headed-held (fit-lines (seen first).lines)
      ∙ ap (λ (w : SlotPair). after (run slots session) w (map read_voice (seen first).lines)) (headed-world ∙ sym (head-read session session-is-ok (slot_pair_in first) (slot_pair_in second) h.good accepted s.copy h.allowed))
      ∙ ap (reads.slot_resumed session (slot_pair_in second)) (seen_same first h)
