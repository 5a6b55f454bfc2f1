-- Sound leaves an accepted chip accepted. Assumes nothing beyond the ranges that the types give.
use Rattle.std.specs.Prelude.{Ok}
use mathlib.Core.Path.{◌≡◌, refl, subst}
use mathlib.Core.Bool.{true, false, ◌&&◌}
use mathlib.Core.List.{List}
use Prim.Native.Nat.{ℕ, ◌*◌, ◌<◌}
use native.Mathlib.Omega.{arith}
use lib.Dec.{ltb}
use lib.IntN.{ℤ, pos}
use lib.ListN.{length}
use borrow.Author.Tests.{ltb-true}
use Rattle.sizes.specs.Sizes.{fifo_capacity, num_channels, queue_buffer}
use Rattle.cores.specs.Sizes.{num_cores}
use Rattle.num.specs.Lists.{part}
use Rattle.num.proofs.Choice.{cond-by, both}
use Rattle.version.specs.declared.SguVersion.{SguVersion}
use Rattle.version.specs.Versions.{core_count}
use Rattle.registers.specs.PlainQueue.{FitEntries}
use Rattle.voices.specs.declared.Core.{Core}
use Rattle.frames.specs.Kept.{EachByte}
use Rattle.frames.specs.Turning.{Turns, frames}
use Rattle.frames.proofs.Framing.{frames-turns}
use Rattle.frames.proofs.Wells.{Well, turned-well}
use Rattle.sides.specs.Sides.{saturating}
use Rattle.s3w2.specs.declared.Returned.TheVariants.{Done, Sample, Ended}
use Rattle.s3w2.specs.declared.Called.{Called}
use Rattle.s3w2.specs.declared.Chip.{Chip}
use Rattle.s3w2.specs.Answers.{Answer, answered}
use Rattle.s3w2.specs.Refusals.{accepts_chip, sound_refusal, clock_refusal}
use Rattle.s3w2.specs.Chips.{core_at, with_core_at, core_queues}
use Rattle.chip_sound.specs.Sound.{one_tick, one_tick_ends, silent_turns, core_frames, framed, framed_ended, generate_sample_called, clock_called}
use Rattle.chip_sound.specs.Mixing.{mixed_answered, cleared_to, served, clock_mixed_called}
use Rattle.s3w2.proofs.Fits.{FitChip, sized-cores, accepted-at, with-accepts, both-accept}
use Rattle.s3w2.proofs.Kept.{part-fits, called-kept}
use Rattle.chip_sound.proofs.Sounds.{in-chip}

-- ---- one core
module _ (version : SguVersion) (ram : List ℕ) (queues : List ℤ) (bytes : EachByte ram) (entries : FitEntries queues) where
  abbrev parts : (ch : ℕ) → FitEntries (part queues (ch * fifo_capacity) fifo_capacity)
  parts ch = part-fits queues entries (ch * fifo_capacity) fifo_capacity

  pub frames-well : (core : Core) → Well version (length ram) core → (m : ℕ) → Well version (length ram) (frames version ram queues m core).core
  frames-well core w m = subst (λ (t : Turns). Well version (length ram) t.core) (frames-turns version ram queues core m) (turned-well version ram queues 4 (omega arith) (omega arith) bytes parts 0 core w (8 * m))

-- ---- the chip
module _ (chip : Chip) (ram : List ℕ) (queues : List ℤ) (ok : accepts_chip chip (length ram) ≡ true) (fits : FitChip chip) (bytes : EachByte ram) (entries : FitEntries queues) where
  pub own-entries : (k : ℕ) → FitEntries (core_queues k queues)
  own-entries k = part-fits queues entries (k * queue_buffer) queue_buffer

  pub chip-well : (k : ℕ) → k < num_cores → Well chip.version (length ram) (core_at chip k)
  chip-well k h = record { ready = record { accepted = accepted-at chip (length ram) (sized-cores chip fits) ok k h; bytes = (fits.each k h).bytes }; fits = (fits.each k h).fits }

  -- core k after n frames
  pub core-well : (n k : ℕ) → k < num_cores → Well chip.version (length ram) (core_frames chip ram queues n k).core
  core-well n k h =
      cond-by (λ (t : Turns). Well chip.version (length ram) t.core) (ltb k (core_count chip.version)) (frames chip.version ram (core_queues k queues) n (core_at chip k)) (silent_turns n (core_at chip k))
      (λ _. frames-well chip.version ram (core_queues k queues) bytes (own-entries k) (core_at chip k) (chip-well k h) n) (λ _. chip-well k h)

  pub framed_kept : (n : ℕ) → accepts_chip (framed chip ram queues n) (length ram) ≡ true
  framed_kept n = both-accept chip (length ram) (core_frames chip ram queues n 0).core (core_frames chip ram queues n 1).core (core-well n 0 (omega arith)).ready.accepted (core-well n 1 (omega arith)).ready.accepted

  pub generate-sample-kept : (k ch : ℕ) → accepts_chip (generate_sample_called chip ram queues k ch).chip (length ram) ≡ true
  unfolding generate_sample_called
  generate-sample-kept k ch =
      let t = one_tick chip ram queues k ch in
      let there = ltb k (core_count chip.version) in
      called-kept chip (length ram) ok (sound_refusal chip (length ram) (length queues)) _
      (cond-by (λ (u : Called). accepts_chip u.chip (length ram) ≡ true) (there && ltb ch num_channels) (answered (with_core_at chip k t.core) (Ok (Sample t.sample (one_tick_ends chip ram queues k ch)))) (answered chip (Ok (Sample (pos 0) false)))
      (λ e.
      let h = in-chip chip.version _ k refl (ltb-true k (core_count chip.version) (both there (ltb ch num_channels) e).0) in
      let w = turned-well chip.version ram (core_queues k queues) 1 (omega arith) (omega arith) bytes (parts chip.version ram (core_queues k queues) bytes (own-entries k)) ch (core_at chip k) (chip-well k h) 1 in
      with-accepts chip (length ram) ok k t.core w.ready.accepted)
      (λ e. ok))

  pub clock-kept : (n stems : ℕ) → accepts_chip (clock_called chip ram queues n stems).chip (length ram) ≡ true
  unfolding clock_called
  clock-kept n stems =
      called-kept chip (length ram) ok (clock_refusal chip (length ram) (length queues) n stems) (answered (framed chip ram queues n) (Ok (Ended (framed_ended chip ram queues n)))) (framed_kept n)

  -- `clock_mixed_into`, `clock_mixed_into_i32`
  pub mixed-kept : (plus : ℤ → ℤ → ℤ) (left right : List ℤ) (answer : Answer) → accepts_chip (mixed_answered plus chip ram queues left right answer).chip (length ram) ≡ true
  unfolding mixed_answered
  mixed-kept plus left right answer =
      called-kept chip (length ram) ok (sound_refusal chip (length ram) (length queues)) (answered (framed chip ram queues (served left right)) answer) (framed_kept (served left right))

  pub clock-mixed-kept : (left right : List ℤ) → accepts_chip (clock_mixed_called chip ram queues left right).chip (length ram) ≡ true
  unfolding clock_mixed_called
  clock-mixed-kept left right = mixed-kept saturating (cleared_to (served left right) left) (cleared_to (served left right) right) (Ok Done)
