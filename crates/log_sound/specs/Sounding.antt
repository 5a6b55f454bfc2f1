-- Lines of an input played by the chip as one list of calls.
use Rattle.std.specs.Prelude.{List, ◌++◌, ℕ, ◌*◌, ◌/◌, min, ℤ, length, take, drop, replicate}
use Rattle.sizes.specs.Sizes.{stems_per_frame}
use Rattle.s3w2.specs.declared.Chip.{Chip}
use Rattle.s3w2.specs.declared.Called.{Called}
use Rattle.chip_lists.specs.Plays.{Playing, playing, play_called, play_left}
use Rattle.log_sound.specs.declared.Sounded.{Sounded}
use Rattle.log_sound.specs.Gathering.{Gathering, list_from}

-- the lines from a place on that are played: at most 256, of no more frames than there are stems for
abbrev pub lines_taken : List ℕ → ℕ → List ℤ → List ℤ → Gathering
lines_taken input from stems others = list_from input (min (length stems) (length others) / stems_per_frame) from (replicate 256 0) (replicate 256 0) (replicate 256 0)

module _ (chip : Chip) (input : List ℕ) (from : ℕ) (ram : List ℕ) (queues stems others : List ℤ) where
  -- the chip and what is lent to it for these lines: stem buffers of their frames
  abbrev pub list_begins : Gathering → Playing
  list_begins g = playing chip ram queues (take g.count g.values) (take (stems_per_frame * g.frames) stems) (take (stems_per_frame * g.frames) others)

  unfoldable pub sounded_called : Called
  sounded_called =
      let g = lines_taken input from stems others in
      play_called (take g.count g.kinds) (take g.count g.addresses) (list_begins g)

  -- what is lent, after it
  unfoldable pub sounded_left : Playing
  sounded_left =
      let g = lines_taken input from stems others in
      play_left (take g.count g.kinds) (take g.count g.addresses) (list_begins g)

  -- the stems: those of the frames, and behind them what stood there
  unfoldable pub sounded_stems : List ℤ
  sounded_stems = sounded_left.stems ++ drop (stems_per_frame * (lines_taken input from stems others).frames) stems

  unfoldable pub sounded_others : List ℤ
  sounded_others = sounded_left.others ++ drop (stems_per_frame * (lines_taken input from stems others).frames) others

  unfoldable pub sounded_of : Sounded
  sounded_of =
      let g = lines_taken input from stems others in
      record { chip = sounded_called.chip; answer = sounded_called.answer; count = g.count; frames = g.frames; from = g.from }
