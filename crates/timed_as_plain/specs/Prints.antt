-- A timed log read in parts, as a program reads it: turn by turn, with more input where a turn asks for it.
use Rattle.std.specs.Prelude.{Ok, Some, None, Err, ◌≡◌, List, [], ◌∷◌, ◌++◌, ℕ, length, drop}
use Rattle.log_lines.specs.declared.LineFault.{LineFault}
use Rattle.log_player.specs.declared.Stop.TheVariants.{Bad}
use Rattle.log_player.specs.Runs.{Run}
use Rattle.timed_log.specs.Turns.{Stand, stand, turn_over}
use Rattle.timed_log.specs.Ends.{last_run, last_told}

-- what was read behind what a turn left of its input
abbrev pub refilled : Stand → Stand
refilled s = stand s.world s.clock s.plain s.from s.end 0 s.number

abbrev pub rest_of : Stand → List ℕ → List ℕ
rest_of s input = drop s.place input

-- the end, where no more is read
abbrev pub ending : ℕ → Stand → List ℕ → Run
ending room s input = last_run room s.world s.clock (length (rest_of s input))

abbrev pub told_at_end : Stand → List ℕ → Run → List ℕ
told_at_end s input r = last_told s.number (length (rest_of s input)) r

-- from a stand over an input, with such parts to come, so much is printed: every way a run can go to its end
pub data Prints (room : ℕ) : Stand → List ℕ → List (List ℕ) → List ℕ → Type 0 where
  again : (s : Stand) (input : List ℕ) (parts : List (List ℕ)) (place : ℕ) (text : List ℕ) → (turn_over room input s).next ≡ Ok (Some place)
      → Prints room (turn_over room input s).stand input parts text → Prints room s input parts ((turn_over room input s).text ++ text)
  more : (s : Stand) (input part : List ℕ) (parts : List (List ℕ)) (text : List ℕ) → (turn_over room input s).next ≡ Ok None
      → Prints room (refilled (turn_over room input s).stand) (rest_of (turn_over room input s).stand input ++ part) parts text
      → Prints room s input (part ∷ parts) ((turn_over room input s).text ++ text)
  last : (s : Stand) (input : List ℕ) → (turn_over room input s).next ≡ Ok None → (ending room (turn_over room input s).stand input).next ≡ Ok None
      → Prints room s input [] ((turn_over room input s).text ++ told_at_end (turn_over room input s).stand input (ending room (turn_over room input s).stand input))
  bad : (s : Stand) (input : List ℕ) (parts : List (List ℕ)) (why : LineFault) → (turn_over room input s).next ≡ Err (Bad why) → Prints room s input parts (turn_over room input s).text
