-- The lines of a state in an input, and those that a player printed before it.
use Rattle.std.specs.Prelude.{Bool, true, false, cond, List, ℕ, ◌+◌, eqb, leb, length, get_or}
use Rattle.log_player.specs.Steps.{first_line}
use Rattle.log_state.specs.declared.Found.{Found}
use Rattle.log_state.specs.declared.Found.TheVariants.{Line, Sound, Open}

-- `F`, `P` and `R` begin the lines that a player prints; they may stand before line 0 alone
unfoldable pub sound_line : ℕ → ℕ → Bool
sound_line c k = cond (eqb k 0) (cond (eqb c 70) true (cond (eqb c 80) true (eqb c 82))) false

-- what stands at a place, with which the rest of an input begins: of a line that goes on all bytes count, of one that a player
-- printed the first
unfoldable pub found_at : List ℕ → ℕ → ℕ → Found
found_at rest at k =
    cond (leb (length rest) (length (first_line rest)))
    (Open (at + cond (sound_line (get_or rest 0 0) k) 1 (length rest)))
    (cond (sound_line (get_or rest 0 0) k) (Sound (at + length (first_line rest) + 1)) (Line (at + length (first_line rest) + 1)))
