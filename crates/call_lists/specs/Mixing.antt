-- Frames of both cores added to two sides, one a place; the shorter of the two is served.
use Rattle.std.specs.Prelude.{List, ℕ, min, ℤ, pos, length, replicate}
use Rattle.std.proofs.lemmas.List.Edits.{sets}
use Rattle.sides.specs.Sides.{added_to}
use Rattle.plain_chip.specs.Models.{Model}
use Rattle.pair_chip.specs.Pairs.{Pair, core_frames}

-- the frames that two sides have places for
abbrev pub served : List ℤ → List ℤ → ℕ
served left right = min (length left) (length right)

-- n frames added to a side by a way to add; hand 0 is the left side, 1 the right one
abbrev pub mixed_side : {A : Type 0} → Model A → (ℤ → ℤ → ℤ) → ℕ → Pair A → ℕ → List ℤ → List ℤ
mixed_side m plus n p hand side = added_to plus n (core_frames m n 0 p).stems (core_frames m n 1 p).stems hand 0 side

-- zeros, as far as a side is served
abbrev pub cleared_to : ℕ → List ℤ → List ℤ
cleared_to n side = sets side 0 (replicate (min n (length side)) (pos 0))
