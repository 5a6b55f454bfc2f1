-- Some of a log played, line by line: the world that it leaves, the number and the place of the line there, what that is, and the text.
use Rattle.std.specs.Prelude.{Ok, Some, None, Err, Bool, true, false, cond, List, [], ◌++◌, ℕ, zero, suc, ◌+◌, eqb, leb, length, drop, get_or}
use Rattle.log_lines.specs.Lines.{parsed_line}
use Rattle.log_lines.specs.Lines as log
use Rattle.log_lines.specs.Texts.{bad_line}
use Rattle.s3w2.specs.Answers.{Checked, number_of}
use Rattle.s3w2.specs.Refusals.{sound_refusal}
use Rattle.log_player.specs.declared.Stop.TheVariants.{Bad, Refused}
use Rattle.log_player.specs.declared.Player.{Player}
use Rattle.log_player.specs.declared.Ran.{Ran}
use Rattle.log_player.specs.Worlds.{World}
use Rattle.log_player.specs.Applied.{after_line, printed}
use Rattle.log_player.specs.Steps.{Next, first_line, next_of}

-- whether so much room is left behind `end`, and there is a number for the line behind line `number`
unfoldable pub has_room_of : ℕ → ℕ → ℕ → ℕ → Bool
has_room_of room length end number = cond (eqb number 18446744073709551615) false (leb (end + room) length)

-- whether a run goes on with line `number`: there is room for a line's text
abbrev pub has_room : ℕ → ℕ → ℕ → Bool
has_room = has_room_of 16384

-- ---- a log played up to a place of an input: the world, the number of the line there, the place, the text so far
pub record Spot : Type 0 where
  pub world : World
  pub number : ℕ
  pub from : ℕ
  pub text : List ℕ

abbrev pub spot : World → ℕ → ℕ → List ℕ → Spot
spot w number from text = record { world = w; number = number; from = from; text = text }

-- the line there played
abbrev pub spot_behind : List ℕ → Spot → Spot
spot_behind input s =
    let line = first_line (drop s.from input) in
    spot (after_line s.world (parsed_line line)) (suc s.number) (s.from + length line + 1) (s.text ++ printed s.world (parsed_line line))

abbrev pub is_line : Next → Bool
is_line (Ok (Some place)) = true
is_line (Ok None) = false
is_line (Err (Bad why)) = false
is_line (Err (Refused why)) = false

-- what a run that puts its text into a buffer of some length finds at a spot: where there is no room it looks no further
unfoldable pub found_by : ℕ → List ℕ → Spot → Next
found_by room input s = cond (has_room room (length s.text) s.number) (next_of (drop s.from input) s.from) (Ok (Some s.from))

-- whether it plays the line there
unfoldable pub plays_line : ℕ → List ℕ → Spot → Bool
plays_line room input s = cond (has_room room (length s.text) s.number) (is_line (next_of (drop s.from input) s.from)) false

-- line by line, at most so many
unfoldable pub lines_played : ℕ → List ℕ → ℕ → Spot → Spot
lines_played room input zero s = s
lines_played room input (suc n) s = cond (plays_line room input s) (lines_played room input n (spot_behind input s)) s

-- ---- a run: where it ends, what it finds there, and its text
pub record Run : Type 0 where
  pub world : World
  pub number : ℕ
  pub from : ℕ
  pub next : Next
  pub text : List ℕ

-- a bad line is told; a refusal prints nothing
abbrev pub stop_text : ℕ → Next → List ℕ
stop_text number (Ok (Some place)) = []
stop_text number (Ok None) = []
stop_text number (Err (Bad why)) = bad_line number (log.number_of why)
stop_text number (Err (Refused why)) = []

abbrev pub stops_at : Spot → Next → Run
stops_at s next = record { world = s.world; number = s.number; from = s.from; next = next; text = s.text ++ stop_text s.number next }

-- an input has no more lines than bytes
unfoldable pub run_from : ℕ → List ℕ → Spot → Run
run_from room input s =
    let last = lines_played room input (length input) s in
    stops_at last (found_by room input last)

-- ---- `run`: why a call that is lent a world's RAM and queue buffer is refused, if it is, and its number; 0 where it is not
abbrev pub refusal_in : World → Checked
refusal_in w = sound_refusal w.player.chip (length w.ram) (length w.queues)

unfoldable pub refused_by : World → ℕ
refused_by w = get_or (number_of (refusal_in w)) 0 0

-- where calls are refused, no line is looked at
abbrev pub unless_refused : Checked → Spot → Run → Run
unless_refused (Ok x) s run = run
unless_refused (Err why) s run = stops_at s (Err (Refused why))

unfoldable pub log_run : ℕ → List ℕ → Spot → Run
log_run room input s = unless_refused (refusal_in s.world) s (run_from room input s)

abbrev pub ran_as : Player → Next → ℕ → ℕ → ℕ → Ran
ran_as player next from number end = record { player = player; next = next; from = from; number = number; end = end }

-- what it answers
abbrev pub ran_to : Run → Ran
ran_to r = ran_as r.world.player r.next r.from r.number (length r.text)
