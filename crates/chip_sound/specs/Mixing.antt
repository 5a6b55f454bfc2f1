-- Frames of both cores added to two sides, one a place; the shorter of the two is served.
use Rattle.std.specs.Prelude.{Ok, List, ℕ, min, ℤ, pos, length, replicate}
use Rattle.std.proofs.lemmas.List.Edits.{sets}
use Rattle.sides.specs.Sides.{added, saturating, wrapping}
use Rattle.s3w2.specs.declared.Chip.{Chip}
use Rattle.s3w2.specs.declared.Called.{Called}
use Rattle.s3w2.specs.declared.Returned.TheVariants.{Done, Ended}
use Rattle.s3w2.specs.Answers.{Answer, unless, answered, called}
use Rattle.s3w2.specs.Refusals.{sound_refusal}
use Rattle.chip_sound.specs.Sound.{core_frames, framed, framed_ended}

-- the frames that two sides have places for
abbrev pub served : List ℤ → List ℤ → ℕ
served left right = min (length left) (length right)

-- n frames of the chip added to a side of any numbers: hand 0 is the left one, 1 the right one
abbrev pub mixed_in : {A : Type 0} → A → (A → ℤ → A) → Chip → List ℕ → List ℤ → ℕ → ℕ → List A → List A
mixed_in silent plus chip ram queues n hand side = added silent plus n (core_frames chip ram queues n 0).stems (core_frames chip ram queues n 1).stems hand 0 side

-- ---- the calls: `clock_mixed_into` and `clock_mixed_into_i32` by their way to add and by what they answer
module _ (plus : ℤ → ℤ → ℤ) (chip : Chip) (ram : List ℕ) (queues left right : List ℤ) where
  -- their frames added to a side
  abbrev pub mixed_side : ℕ → List ℤ → List ℤ
  mixed_side = mixed_in (pos 0) plus chip ram queues (served left right)

  unfoldable pub mixed_answered : Answer → Called
  mixed_answered answer = called (sound_refusal chip (length ram) (length queues)) chip (answered (framed chip ram queues (served left right)) answer)

  unfoldable pub mixed_left : List ℤ
  mixed_left = unless (sound_refusal chip (length ram) (length queues)) left (mixed_side 0 left)

  unfoldable pub mixed_right : List ℤ
  mixed_right = unless (sound_refusal chip (length ram) (length queues)) right (mixed_side 1 right)

-- `clock_mixed_into` gives nothing, `clock_mixed_into_i32` the voices that the frames turn off
module _ (chip : Chip) (ram : List ℕ) (queues left right : List ℤ) where
  abbrev pub mixed_called : Called
  mixed_called = mixed_answered saturating chip ram queues left right (Ok Done)

  abbrev pub mixed_i32_called : Called
  mixed_i32_called = mixed_answered wrapping chip ram queues left right (Ok (Ended (framed_ended chip ram queues (served left right))))

-- ---- `clock_mixed`: the sides are zeros first, as far as they are served
abbrev pub cleared_to : ℕ → List ℤ → List ℤ
cleared_to n side = sets side 0 (replicate (min n (length side)) (pos 0))

module _ (chip : Chip) (ram : List ℕ) (queues left right : List ℤ) where
  unfoldable pub clock_mixed_called : Called
  clock_mixed_called = mixed_called chip ram queues (cleared_to (served left right) left) (cleared_to (served left right) right)

  unfoldable pub clock_mixed_left : List ℤ
  clock_mixed_left = unless (sound_refusal chip (length ram) (length queues)) left (mixed_left saturating chip ram queues (cleared_to (served left right) left) (cleared_to (served left right) right))

  unfoldable pub clock_mixed_right : List ℤ
  clock_mixed_right = unless (sound_refusal chip (length ram) (length queues)) right (mixed_right saturating chip ram queues (cleared_to (served left right) left) (cleared_to (served left right) right))
