-- Some of a timed log written out into a buffer, line by line.
use Rattle.std.specs.Prelude.{Ok, Some, None, Err, Bool, cond, List, [], ◌++◌, ℕ, zero, suc, ◌+◌, ◌-◌, eqb, ltb, length, drop}
use Rattle.num.specs.Lists.{part}
use Rattle.log_player.specs.Runs.{has_room_of}
use Rattle.timed_log.specs.declared.Clockwork.{Clockwork}
use Rattle.timed_log.specs.declared.Unrolled.{Unrolled}
use Rattle.timed_log.specs.Lines.{Ahead, next_due}
use Rattle.timed_log.specs.Unrolled.{clock_most, clock_text, clockwork, applied}

-- room for a `C` line and a line: 7 bytes, and 17
abbrev pub line_room : ℕ
line_room = 32

-- whether there is room behind `end` for a line, and a number for the line behind it
abbrev pub has_place : ℕ → ℕ → ℕ → Bool
has_place = has_room_of line_room

-- ---- a log written out up to a place of an input: the clockwork, the number of the line there, the place, the text so far
pub record Reach : Type 0 where
  pub clock : Clockwork
  pub number : ℕ
  pub from : ℕ
  pub text : List ℕ

abbrev pub reach : Clockwork → ℕ → ℕ → List ℕ → Reach
reach clock number from text = record { clock = clock; number = number; from = from; text = text }

-- the frames before a line, if there are any
unfoldable pub gap_text : ℕ → List ℕ
gap_text gap = cond (eqb gap 0) [] (clock_text gap)

-- the line there written out, or a thousand of the frames before it
unfoldable pub reach_behind : List ℕ → Reach → ℕ → ℕ → ℕ → Reach
reach_behind input s stamp from to =
    cond (ltb clock_most (stamp - s.clock.frames))
    (reach (clockwork (s.clock.frames + clock_most) 0) s.number s.from (s.text ++ clock_text clock_most))
    (reach (applied s.clock stamp) (suc s.number) to (s.text ++ (gap_text (stamp - s.clock.frames) ++ part input from (to - from))))

-- what stands at its place
abbrev pub ahead_of : List ℕ → Reach → Ahead
ahead_of input s = next_due s.clock (drop s.from input) s.from

abbrev pub on_line : List ℕ → Reach → (Reach → Reach) → Ahead → Reach
on_line input s more (Ok (Some line)) = more (reach_behind input s line.stamp line.from line.to)
on_line input s more (Ok None) = s
on_line input s more (Err why) = s

-- line by line into a buffer of some length, at most so many
unfoldable pub unroll_on : ℕ → List ℕ → ℕ → Reach → Reach
unroll_on room input zero s = s
unroll_on room input (suc n) s = cond (has_place room (length s.text) s.number) (on_line input s (unroll_on room input n) (ahead_of input s)) s

-- a buffer has no more lines than bytes
unfoldable pub unroll_from : ℕ → List ℕ → Reach → Reach
unroll_from room input s = unroll_on room input room s

abbrev pub unrolled_as : Clockwork → ℕ → ℕ → ℕ → Unrolled
unrolled_as clock from number end = record { clock = clock; from = from; number = number; end = end }

-- what it answers
abbrev pub unrolled_to : Reach → Unrolled
unrolled_to s = unrolled_as s.clock s.from s.number (length s.text)
