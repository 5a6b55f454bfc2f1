-- The values ahead of the volume of a call's ticks, read off the states of its contract's own definitions: core 0's of the whole call, then
-- core 1's. No call gives them; one that is turned away has none.
use Rattle.std.specs.Prelude.{cond, ◌&&◌, List, [], ◌++◌, ℕ, ltb, ℤ, length}
use Rattle.sizes.specs.Sizes.{num_channels}
use Rattle.version.specs.Versions.{core_count}
use Rattle.frame_reports.specs.Values.{turned_values, frames_values}
use Rattle.s3w2.specs.declared.Chip.{Chip}
use Rattle.s3w2.specs.Answers.{unless}
use Rattle.s3w2.specs.Chips.{core_at, core_queues}
use Rattle.s3w2.specs.Refusals.{sound_refusal, clock_refusal}
use Rattle.chip_sound.specs.Mixing.{cleared_to, served}

module _ (chip : Chip) (ram : List ℕ) (queues : List ℤ) where
  -- one tick of a voice of core k; a core that the version lacks is not ticked
  unfoldable pub sample_call_values : ℕ → ℕ → List ℤ
  sample_call_values k ch =
      unless (sound_refusal chip (length ram) (length queues)) []
      (cond (ltb k (core_count chip.version) && ltb ch num_channels) (turned_values chip.version ram (core_queues k queues) ch 1 1 (core_at chip k)) [])

  -- n frames of core k, and of both
  abbrev pub core_values : ℕ → ℕ → List ℤ
  core_values n k = cond (ltb k (core_count chip.version)) (frames_values chip.version ram (core_queues k queues) n (core_at chip k)) []

  abbrev pub framed_values : ℕ → List ℤ
  framed_values n = core_values n 0 ++ core_values n 1

  -- `stems` is the stem buffer's length
  unfoldable pub clock_call_values : ℕ → ℕ → List ℤ
  clock_call_values n stems = unless (clock_refusal chip (length ram) (length queues) n stems) [] (framed_values n)

  -- frames mixed to two sides
  unfoldable pub mixed_call_values : List ℤ → List ℤ → List ℤ
  mixed_call_values left right = unless (sound_refusal chip (length ram) (length queues)) [] (framed_values (served left right))

  abbrev pub clock_mixed_call_values : List ℤ → List ℤ → List ℤ
  clock_mixed_call_values left right = mixed_call_values (cleared_to (served left right) left) (cleared_to (served left right) right)
