-- The next line of an input.
use Rattle.std.specs.Prelude.{Option, Some, None, Result, Ok, Err, cond, List, [], ◌∷◌, ℕ, ◌+◌, eqb, leb, length}
use Rattle.log_lines.specs.declared.Line.{Line}
use Rattle.log_lines.specs.declared.LineFault.{LineFault}
use Rattle.log_lines.specs.declared.LineFault.TheVariants.{Malformed}
use Rattle.log_lines.specs.Lines.{parsed_line}
use Rattle.log_player.specs.declared.Stop.{Stop}
use Rattle.log_player.specs.declared.Stop.TheVariants.{Bad}

-- what an input holds at a place: a line, and the place behind it; no whole line; or why no line is played
abbrev pub Next : Type 0
Next = Result (Option ℕ) Stop

-- the bytes before the first byte 10
unfoldable pub first_line : List ℕ → List ℕ
first_line [] = []
first_line (c ∷ cs) = cond (eqb c 10) [] (c ∷ first_line cs)

-- the place of the first byte 10 of what begins at a place, if there is one
unfoldable pub line_end : List ℕ → ℕ → Option ℕ
line_end rest at = cond (eqb (length (first_line rest)) (length rest)) None (Some (at + length (first_line rest)))

-- a line that ends before a place
abbrev pub line_found : ℕ → Result Line LineFault → Next
line_found behind (Ok line) = Ok (Some behind)
line_found behind (Err why) = Err (Bad why)

-- what a step makes of the rest of an input, which begins at a place: a line without byte 10 may go on, up to 16 bytes
unfoldable pub next_of : List ℕ → ℕ → Next
next_of rest at =
    cond (eqb (length (first_line rest)) (length rest)) (cond (leb (length rest) 16) (Ok None) (Err (Bad Malformed)))
    (line_found (at + length (first_line rest) + 1) (parsed_line (first_line rest)))
