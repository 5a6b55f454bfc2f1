-- A state's lines read from the front of an input, and those that a player printed before them.
use Rattle.std.specs.Prelude.{Ok, Err, Bool, cond, List, ℕ, zero, suc, ℤ, length, take, drop, get_or}
use Rattle.session.specs.Answers.{LineAnswer}
use Rattle.session.specs.declared.LineRefusal.{LineRefusal}
use Rattle.log_player.specs.declared.Player.{Player}
use Rattle.log_player.specs.Steps.{first_line}
use Rattle.log_state.specs.Lines.{take_line, take_line_queues}
use Rattle.log_state.specs.Finding.{sound_line}

-- the first line of an input with its byte 10, and what follows it
abbrev pub front_line : List ℕ → List ℕ
front_line input = take (suc (length (first_line input))) input

abbrev pub behind_line : List ℕ → List ℕ
behind_line input = drop (suc (length (first_line input))) input

-- what reading comes to: a player with its queue buffer, and the input behind the lines; or why the first line that is turned away is so
pub data Load : Type 0 where
  loaded : Player → List ℤ → List ℕ → Load
  refused : LineRefusal → Load

abbrev pub goes_on : LineAnswer (Unit {0}) → Load → Load
goes_on (Ok x) next = next
goes_on (Err why) next = refused why

-- n lines, from line k on, by a player over a RAM of some length
unfoldable pub read_lines : Bool → ℕ → ℕ → Player → ℕ → List ℤ → List ℕ → Load
read_lines stored zero k p ram queues input = loaded p queues input
read_lines stored (suc n) k p ram queues input =
    goes_on (take_line stored p ram queues k (front_line input)).answer
    (read_lines stored n (suc k) (take_line stored p ram queues k (front_line input)).player ram (take_line_queues stored p queues k (front_line input)) (behind_line input))

-- the lines that a player printed before a state are skipped, at most so many
unfoldable pub skip_lines : ℕ → List ℕ → List ℕ
skip_lines zero input = input
skip_lines (suc n) input = cond (sound_line (get_or input 0 0) 0) (skip_lines n (behind_line input)) input

-- an input has fewer lines than bytes
abbrev pub skipped : List ℕ → List ℕ
skipped input = skip_lines (length input) input
