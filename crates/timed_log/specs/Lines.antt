-- Document 02's lines with frame times, each without its closing byte 10.
use Rattle.std.specs.Prelude.{Option, Some, Result, Ok, Err, None, cond, List, [], ◌∷◌, ℕ, ◌+◌, eqb, leb, ltb, length, get_or, drop}
use Rattle.decimal.specs.Read.{natural_at, Numeral}
use Rattle.log_lines.specs.declared.Line.{Line}
use Rattle.log_lines.specs.declared.Line.TheVariants as plain
use Rattle.log_lines.specs.declared.LineFault.{LineFault}
use Rattle.log_lines.specs.declared.LineFault.TheVariants.{Malformed, Late, Crowded}
use Rattle.log_lines.specs.Lines.{parsed_line}
use Rattle.log_lines.specs.Lines as log
use Rattle.log_player.specs.Steps.{first_line}
use Rattle.timed_log.specs.declared.Due.{Due}
use Rattle.timed_log.specs.declared.LineAhead.{LineAhead}
use Rattle.timed_log.specs.declared.Clockwork.{Clockwork}

-- ---- sizes
-- at most so many lines are due at one frame
abbrev pub frame_most : ℕ
frame_most = 64

-- the largest stamp
abbrev pub stamp_most : ℕ
stamp_most = 4294967295

-- no well-formed line has more bytes: ten digits, a comma, and the 16 of a plain line
abbrev pub longest : ℕ
longest = 27

-- ---- a line by itself: 17 and 27
abbrev pub as_due : ℕ → ℕ → Due
as_due stamp from = record { stamp = stamp; from = from }

-- what is due at a stamp begins at a place behind it; or the line is bad
abbrev pub TimedLine : Type 0
TimedLine = Result Due LineFault

-- a plain line that begins at a place behind its stamp; a `C` line is malformed
abbrev pub stamped_line : ℕ → ℕ → Result Line LineFault → TimedLine
stamped_line stamp from (Ok (plain.Write a v)) = Ok (as_due stamp from)
stamped_line stamp from (Ok (plain.WriteRam a v)) = Ok (as_due stamp from)
stamped_line stamp from (Ok (plain.Read a)) = Ok (as_due stamp from)
stamped_line stamp from (Ok (plain.Peek a)) = Ok (as_due stamp from)
stamped_line stamp from (Ok (plain.Clock n)) = Err Malformed
stamped_line stamp from (Ok (plain.Version v)) = Ok (as_due stamp from)
stamped_line stamp from (Err why) = Err why

-- a stamp, a comma and a plain line
abbrev pub due_behind : List ℕ → Numeral ℕ → TimedLine
due_behind text (Some (n, next)) =
    cond (leb n stamp_most)
    (cond (eqb (get_or text next 0) 44) (stamped_line n (next + 1) (parsed_line (drop (next + 1) text))) (Err Malformed))
    (Err Malformed)
due_behind text None = Err Malformed

unfoldable pub due_of : List ℕ → TimedLine
due_of text = due_behind text (natural_at text 0)

-- the number of a bad line, document 01's or document 02's; any other has none
abbrev pub number_of : TimedLine → List ℕ
number_of (Ok due) = []
number_of (Err why) = log.number_of why ∷ []

-- ---- a line behind others: 18 and 19
-- how many of them are due at the same frame
abbrev pub due_already : Clockwork → ℕ → ℕ
due_already clock stamp = cond (eqb stamp clock.frames) clock.lines 0

unfoldable pub judged : Clockwork → TimedLine → TimedLine
judged clock (Ok due) = cond (ltb due.stamp clock.frames) (Err Late) (cond (leb frame_most (due_already clock due.stamp)) (Err Crowded) (Ok due))
judged clock (Err why) = Err why

-- ---- the next line of an input, of which the rest begins at a place: a line without byte 10 may go on
abbrev pub line_ahead : ℕ → ℕ → ℕ → LineAhead
line_ahead stamp from to = record { stamp = stamp; from = from; to = to }

-- a line, no whole line, or a bad one
abbrev pub Ahead : Type 0
Ahead = Result (Option LineAhead) LineFault

abbrev pub placed : ℕ → ℕ → TimedLine → Ahead
placed at count (Ok due) = Ok (Some (line_ahead due.stamp (at + due.from) (at + count + 1)))
placed at count (Err why) = Err why

unfoldable pub next_due : Clockwork → List ℕ → ℕ → Ahead
next_due clock rest at =
    cond (eqb (length (first_line rest)) (length rest))
    (cond (leb (length rest) longest) (Ok None) (Err Malformed))
    (placed at (length (first_line rest)) (judged clock (due_of (first_line rest))))
