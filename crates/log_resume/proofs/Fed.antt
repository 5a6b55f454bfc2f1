-- What s3w2-save prints of the first half of a log, and the second half behind it, is read as the state from which the second half goes
-- on. Assumes nothing.
use Rattle.std.specs.Prelude.{Result, Ok, Err, is_ok}
use mathlib.Core.Path.{◌≡◌, refl, sym, ap, ◌∙◌}
use mathlib.Core.Bool.{false}
use mathlib.Core.List.{List, [], ◌∷◌, ◌++◌, append_assoc}
use Prim.Native.Nat.{ℕ}
use lib.Dec.{eqb}
use lib.IntN.{pos}
use lib.ListN.{length, get_or, set, replicate, length-set, length-replicate}
use Rattle.cores.specs.Sizes.{chip_voices, chip_queues}
use Rattle.num.proofs.Choice.{cond-by}
use Rattle.log_lines.specs.Lines.{parsed_line, is_bad}
use Rattle.log_lines.specs.declared.Line.{Line}
use Rattle.log_lines.specs.declared.Line.TheVariants.{Write, WriteRam, Read, Peek, Clock, Version}
use Rattle.log_lines.specs.declared.LineFault.{LineFault}
use Rattle.s3w2.specs.Refusals.{ram_refusal}
use Rattle.s3w2.specs.Ram.{write_pcm_ram_ram}
use Rattle.plain_chip.specs.Lists.{Every}
use Rattle.chip_calls.specs.Code.{code}
use Rattle.log_player.specs.Worlds.{World, world, fresh_player, fresh_world}
use Rattle.log_player.specs.Applied.{effect_of, after_line, printed}
use Rattle.log_state.specs.Finding.{sound_line}
use Rattle.log_state.specs.Lines.{state_line, state_lines, line_count, state_text}
use Rattle.log_state.specs.Loads.{read_lines}
use Rattle.log_state.proofs.Stated.{no-sound}
use Rattle.log_state.proofs.Heard.{Skipped, skip-none, skip_both, skip-choice, printed-skipped, all-skipped}
use Rattle.log_resume.specs.Cuts.{sounds_of, Playable, half, played, loaded, CutLog}
use Rattle.log_resume.proofs.Fresh.{fresh-held}
use Rattle.log_resume.proofs.Cuts.{held-played, cut}
use Rattle.log_resume.proofs.Loads.{loads}

sounds-skipped : (input : List ℕ) (w : World) (line : List ℕ) → Skipped (sounds_of w line input)
unfolding sounds_of
sounds-skipped [] w line = skip-none
sounds-skipped (c ∷ cs) w line =
    skip-choice (eqb c 10) _ _
    (skip-choice (is_bad (parsed_line line)) [] _ skip-none
    (skip_both (printed w (parsed_line line)) (sounds_of (after_line w (parsed_line line)) [] cs) (printed-skipped w (parsed_line line)) (sounds-skipped cs (after_line w (parsed_line line)) [])))
    (sounds-skipped cs w (line ++ (c ∷ [])))

-- a state begins with no line of a player
state-first : (w : World) (more : List ℕ) → sound_line (get_or (state_text w ++ more) 0 0) 0 ≡ false
state-first w more =
    let chip = w.player.chip in
    let l : List ℕ = state_line chip (length w.ram) w.queues 0 in
    let rest : List ℕ = state_lines chip (length w.ram) w.queues chip_voices 1 in
    ap (λ (t : List ℕ). sound_line (get_or t 0 0) 0) (append_assoc (l ++ rest) w.ram more ∙ append_assoc l rest (w.ram ++ more))
    ∙ no-sound chip (length w.ram) w.queues 0 (rest ++ (w.ram ++ more))

ram-same : (w : World) → (loaded w).ram ≡ w.ram
unfolding code
ram-same w = refl

-- ---- a line leaves the RAM as long as it is
same_size : (w : World) (l : Result Line LineFault) → length (after_line w l).ram ≡ length w.ram
unfolding effect_of write_pcm_ram_ram
same_size w (Ok (Write a v)) = refl
same_size w (Ok (WriteRam a v)) = cond-by (λ (r : List ℕ). length r ≡ length w.ram) (is_ok (ram_refusal w.player.chip (length w.ram))) (set w.ram a v) w.ram (λ e. length-set w.ram a v) (λ e. refl)
same_size w (Ok (Read a)) = refl
same_size w (Ok (Peek a)) = refl
same_size w (Ok (Clock n)) = refl
same_size w (Ok (Version v)) = refl
same_size w (Err why) = refl

size-played : (lines : List (List ℕ)) (w : World) → length (played w lines).ram ≡ length w.ram
size-played [] w = refl
size-played (line ∷ lines) w = size-played lines (after_line w (parsed_line line)) ∙ same_size w (parsed_line line)

pub fed : (first : List (List ℕ)) (second : List ℕ) → Every Playable first → CutLog first second
fed first second f =
    let w = played fresh_world first in
    record {
      read =
          ap (read_lines false line_count 0 (fresh_player 65536) 65536 (replicate chip_queues (pos 0)))
          (all-skipped (sounds_of fresh_world [] (half first)) (state_text w ++ second) (sounds-skipped (half first) fresh_world []) (state-first w second))
          ∙ ap (λ (ram : ℕ). read_lines false line_count 0 (fresh_player 65536) ram (replicate chip_queues (pos 0)) (state_text w ++ second)) (sym (size-played first fresh_world ∙ length-replicate {A = ℕ} 65536 0))
          ∙ loads w (held-played first fresh_world fresh-held f) second;
      heard = cut first second f ∙ ap (λ (r : List ℕ). sounds_of fresh_world [] (half first) ++ sounds_of (world (loaded w).player r (loaded w).queues) [] second) (ram-same w);
    }
