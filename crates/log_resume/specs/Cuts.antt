-- A log cut between two of its lines.
use Rattle.std.specs.Prelude.{◌≡◌, Bool, true, false, cond, List, [], ◌∷◌, ◌++◌, ℕ, suc, eqb, pos, length, replicate}
use Rattle.cores.specs.Sizes.{chip_queues}
use Rattle.log_lines.specs.Lines.{parsed_line, bad_number, is_bad}
use Rattle.log_lines.specs.Texts.{bad_line}
use Rattle.version.specs.declared.SguVersion.TheVariants.{V3_1}
use Rattle.s3w2.specs.Fresh.{made_called}
use Rattle.log_player.specs.Worlds.{World, world, fresh_player, fresh_world}
use Rattle.log_player.specs.Applied.{after_line, printed}
use Rattle.log_player.specs.Logs.{end_text}
use Rattle.log_state.specs.Lines.{line_count, state_text}
use Rattle.log_state.specs.Loads.{read_lines, skipped}
use Rattle.log_state.specs.Loads as load
use Rattle.chip_calls.specs.Ties.{Machine}
use Rattle.resume.specs.Stops.{seen, resumed}

-- the `F`, `R` and `P` lines that the rest of a log prints, of which the bytes `line` were read already; nothing behind a bad line
unfoldable pub sounds_of : World → List ℕ → List ℕ → List ℕ
sounds_of w line [] = []
sounds_of w line (c ∷ cs) =
    cond (eqb c 10)
    (cond (is_bad (parsed_line line)) [] (printed w (parsed_line line) ++ sounds_of (after_line w (parsed_line line)) [] cs))
    (sounds_of w (line ++ (c ∷ [])) cs)

-- its last line: the peak, or that a line is bad
unfoldable pub last_of : World → ℕ → List ℕ → List ℕ → List ℕ
last_of w number line [] = end_text w.player number (length line)
last_of w number line (c ∷ cs) =
    cond (eqb c 10)
    (cond (is_bad (parsed_line line)) (bad_line number (bad_number (parsed_line line))) (last_of (after_line w (parsed_line line)) (suc number) [] cs))
    (last_of w number (line ++ (c ∷ [])) cs)

-- ---- a half that is played whole: lines that are not bad, each ended by byte 10
abbrev pub no_end : List ℕ → Bool
no_end [] = true
no_end (c ∷ cs) = cond (eqb c 10) false (no_end cs)

pub record Playable (line : List ℕ) : Type 0 where
  pub one : no_end line ≡ true
  pub played : is_bad (parsed_line line) ≡ false

abbrev pub half : List (List ℕ) → List ℕ
half [] = []
half (line ∷ lines) = line ++ (10 ∷ half lines)

abbrev pub played : World → List (List ℕ) → World
played w [] = w
played w (line ∷ lines) = played (after_line w (parsed_line line)) lines

-- ---- a fresh player that has read a state: the RAM and the session text
abbrev pub machine_of : World → Machine
machine_of w = record { chip = w.player.chip; ram = w.ram; queues = w.queues }

abbrev pub fresh : List ℕ → Machine
fresh ram = record { chip = (made_called 65536 V3_1).chip; ram = ram; queues = replicate chip_queues (pos 0) }

abbrev pub loaded_machine : World → Machine
loaded_machine w = resumed (fresh w.ram) (seen (machine_of w))

-- the peaks begin anew
abbrev pub loaded : World → World
loaded w = world (record { chip = (loaded_machine w).chip; left = 0; right = 0 }) (loaded_machine w).ram (loaded_machine w).queues

-- ---- THE CUT, as the programs make it
-- `first` are the lines that s3w2-save plays, `second` is the log behind its state. What s3w2-save prints, the first half's `F`, `R` and `P` lines and then
-- the state, is read by s3w2-load as `loaded`, with the RAM and the second half behind it; and the whole log prints the first half's lines and then those that the second
-- half prints from there.
pub record CutLog (first : List (List ℕ)) (second : List ℕ) : Type 0 where
  pub read : read_lines false line_count 0 (fresh_player 65536) 65536 (replicate chip_queues (pos 0)) (skipped (sounds_of fresh_world [] (half first) ++ (state_text (played fresh_world first) ++ second)))
      ≡ load.loaded (loaded (played fresh_world first)).player (loaded (played fresh_world first)).queues ((played fresh_world first).ram ++ second)
  pub heard : sounds_of fresh_world [] (half first ++ second)
      ≡ sounds_of fresh_world [] (half first) ++ sounds_of (world (loaded (played fresh_world first)).player (played fresh_world first).ram (loaded (played fresh_world first)).queues) [] second
