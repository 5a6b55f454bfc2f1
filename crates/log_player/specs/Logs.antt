-- A whole log: what it prints.
use Rattle.std.specs.Prelude.{cond, List, [], ◌∷◌, ◌++◌, ℕ, suc, eqb, length}
use Rattle.log_lines.specs.declared.LineFault.TheVariants.{Malformed}
use Rattle.log_lines.specs.Lines.{parsed_line, number_of, bad_number, is_bad}
use Rattle.log_lines.specs.Texts.{bad_line, peak_line}
use Rattle.log_player.specs.declared.Player.{Player}
use Rattle.log_player.specs.Worlds.{World, fresh_world}
use Rattle.log_player.specs.Applied.{after_line, printed}

-- the end of an input, whose last byte 10 so many bytes follow: they are a malformed line
abbrev pub end_text : Player → ℕ → ℕ → List ℕ
end_text p number count = cond (eqb count 0) (peak_line p.left p.right) (bad_line number (number_of Malformed))

-- the rest of a log, from line `number` on, of which the bytes `line` were read already
unfoldable pub rest_text : World → ℕ → List ℕ → List ℕ → List ℕ
rest_text w number line [] = end_text w.player number (length line)
rest_text w number line (c ∷ cs) =
    cond (eqb c 10)
    (cond (is_bad (parsed_line line)) (bad_line number (bad_number (parsed_line line)))
    (printed w (parsed_line line) ++ rest_text (after_line w (parsed_line line)) (suc number) [] cs))
    (rest_text w number (line ++ (c ∷ [])) cs)

-- what a log prints
abbrev pub log_text : List ℕ → List ℕ
log_text input = rest_text fresh_world 1 [] input
