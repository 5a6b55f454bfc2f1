-- A timed log is the plain log of its lines with the times written as `C` lines; at a bad line it stops. Assumes nothing.
use Rattle.std.specs.Prelude.{Ok, Err}
use mathlib.Core.Path.{◌≡◌, refl, sym, ap, ap₂, ◌∙◌}
use mathlib.Core.Bool.{Bool, true, false, cond}
use mathlib.Core.List.{List, [], ◌∷◌, ◌++◌, append_assoc, append-nil}
use Prim.Native.Nat.{ℕ, suc, ◌-◌}
use native.Mathlib.Omega.{arith}
use lib.Dec.{eqb, ltb}
use Rattle.num.proofs.Choice.{cond-by, never}
use Rattle.log_lines.specs.Lines.{parsed_line, bad_number, is_bad}
use Rattle.log_lines.specs.Texts.{bad_line}
use Rattle.log_player.specs.Worlds.{World, fresh_world}
use Rattle.log_player.specs.Applied.{after_line, printed}
use Rattle.log_player.specs.Logs.{end_text, rest_text, log_text}
use Rattle.plain_chip.specs.Lists.{Every}
use Rattle.log_resume.specs.Cuts.{no_end, Playable, half, played}
use Rattle.timed_log.specs.declared.Clockwork.{Clockwork}
use Rattle.timed_log.specs.Lines.{TimedLine, due_of, judged}
use Rattle.timed_log.specs.Unrolled.{clock_line, no_frames, applied}
use Rattle.timed_log.proofs.Judging.{due-is, taken_is}
use Rattle.timed_as_plain.specs.Scores.{DueLine, End, over, line_scored, scored, score, gap_lines, unrolled_lines, last_lines, all_lines, plain_log, sounded, closing, timed_text}
use Rattle.timed_as_plain.proofs.Lines.{no-end-append, no-end-drop, clock-playable, every_append, gap-playable}
use Rattle.timed_as_plain.proofs.Plays.{played-append, sounded-append}

-- ---- a log of lines that are played
rest-line : (line rest : List ℕ) (w : World) (number : ℕ) (pre : List ℕ) → no_end line ≡ true → is_bad (parsed_line (pre ++ line)) ≡ false
    → rest_text w number pre (line ++ (10 ∷ rest)) ≡ printed w (parsed_line (pre ++ line)) ++ rest_text (after_line w (parsed_line (pre ++ line))) (suc number) [] rest
unfolding rest_text
rest-line [] rest w number pre h e =
    let n = append-nil pre in
    ap (λ (b : Bool). cond b (bad_line number (bad_number (parsed_line pre))) (printed w (parsed_line pre) ++ rest_text (after_line w (parsed_line pre)) (suc number) [] rest)) (ap (λ (l : List ℕ). is_bad (parsed_line l)) (sym n) ∙ e)
    ∙ ap (λ (l : List ℕ). printed w (parsed_line l) ++ rest_text (after_line w (parsed_line l)) (suc number) [] rest) (sym n)
rest-line (c ∷ line) rest w number pre h e = go (eqb c 10) h (rest-line line rest w number (pre ++ (c ∷ [])))
  where
    joined : (pre ++ (c ∷ [])) ++ line ≡ pre ++ (c ∷ line)
    joined = append_assoc pre (c ∷ []) line

    ended : List ℕ
    ended = cond (is_bad (parsed_line pre)) (bad_line number (bad_number (parsed_line pre))) (printed w (parsed_line pre) ++ rest_text (after_line w (parsed_line pre)) (suc number) [] (line ++ (10 ∷ rest)))

    part : List ℕ → List ℕ
    part x = printed w (parsed_line x) ++ rest_text (after_line w (parsed_line x)) (suc number) [] rest

    go : (b : Bool) → cond b false (no_end line) ≡ true → (no_end line ≡ true → is_bad (parsed_line ((pre ++ (c ∷ [])) ++ line)) ≡ false → rest_text w number (pre ++ (c ∷ [])) (line ++ (10 ∷ rest)) ≡ part ((pre ++ (c ∷ [])) ++ line))
        → cond b ended (rest_text w number (pre ++ (c ∷ [])) (line ++ (10 ∷ rest))) ≡ part (pre ++ (c ∷ line))
    go true t ih = never (sym t)
    go false t ih = ih t (ap (λ (x : List ℕ). is_bad (parsed_line x)) joined ∙ e) ∙ ap part joined

rest-none : (w : World) (number : ℕ) → rest_text w number [] [] ≡ end_text w.player 0 0
unfolding rest_text
rest-none w number = refl

pub rest-half : (lines : List (List ℕ)) (w : World) (number : ℕ) → Every Playable lines → rest_text w number [] (half lines) ≡ sounded w lines ++ end_text (played w lines).player 0 0
rest-half [] w number p = rest-none w number
rest-half (line ∷ lines) w number p =
    let after = after_line w (parsed_line line) in
    rest-line line (half lines) w number [] p.0.one p.0.played
    ∙ ap (λ (l : List ℕ). printed w (parsed_line line) ++ l) (rest-half lines after (suc number) p.1)
    ∙ sym (append_assoc (printed w (parsed_line line)) (sounded after lines) (end_text (played after lines).player 0 0))

-- ---- what is due is played
abbrev pub PlayableDue : DueLine → Type 0
PlayableDue d = Playable d.line

pub dues-playable : (input : List ℕ) (k : Clockwork) (n : ℕ) (line : List ℕ) → no_end line ≡ true → Every PlayableDue (scored k n line input).dues
unfolding scored
dues-playable [] k n line h = tt
dues-playable (c ∷ cs) k n line h = go (eqb c 10) refl (λ a m. dues-playable cs a m [] refl) (dues-playable cs k n (line ++ (c ∷ [])))
  where
    at : (t : TimedLine) → judged k (due_of line) ≡ t → ((a : Clockwork) (m : ℕ) → Every PlayableDue (scored a m [] cs).dues) → Every PlayableDue (line_scored k n line (λ (a : Clockwork). scored a (suc n) [] cs) t).dues
    at (Ok due) e ih =
        (record { one = no-end-drop due.from line h; played = (due-is line due.stamp due.from (taken_is k due.stamp due.from (due_of line) e).due).good }, ih (applied k due.stamp) (suc n))
    at (Err why) e ih = tt

    go : (b : Bool) → eqb c 10 ≡ b → ((a : Clockwork) (m : ℕ) → Every PlayableDue (scored a m [] cs).dues) → (no_end (line ++ (c ∷ [])) ≡ true → Every PlayableDue (scored k n (line ++ (c ∷ [])) cs).dues)
        → Every PlayableDue (cond b (line_scored k n line (λ (a : Clockwork). scored a (suc n) [] cs) (judged k (due_of line))) (scored k n (line ++ (c ∷ [])) cs)).dues
    go true e ih next = at (judged k (due_of line)) refl ih
    go false e ih next = next (no-end-append line (c ∷ []) h (ap (λ (b : Bool). cond b false true) e))

pub plain-playable : (dues : List DueLine) (frames : ℕ) → Every PlayableDue dues → Every Playable (unrolled_lines frames dues)
plain-playable [] frames p = tt
plain-playable (d ∷ dues) frames p = every_append Playable (gap_lines (d.stamp - frames)) (d.line ∷ unrolled_lines d.stamp dues) (gap-playable (d.stamp - frames)) (p.0, plain-playable dues d.stamp p.1)

pub score-playable : (input : List ℕ) → Every Playable (unrolled_lines 0 (score input).dues)
score-playable input = plain-playable (score input).dues 0 (dues-playable input no_frames 1 [] refl)

last-playable : (k : Clockwork) → Every Playable (last_lines k)
last-playable k = cond-by (Every Playable) (ltb 0 k.lines) (clock_line 1 ∷ []) [] (λ e. (clock-playable 1 (omega arith) (omega arith), tt)) (λ e. tt)

-- THE EQUALITY: where no line is bad, a timed log prints what its plain log prints
pub as_plain : (input : List ℕ) → (score input).end ≡ over → timed_text input ≡ log_text (plain_log input)
as_plain input e =
    let s = score input in
    let lines = unrolled_lines 0 s.dues in
    let w = played fresh_world lines in
    let last = last_lines s.clock in
    ap (λ (x : End). sounded fresh_world lines ++ closing w s.clock x) e
    ∙ sym (append_assoc (sounded fresh_world lines) (sounded w last) (end_text (played w last).player 0 0))
    ∙ sym (ap₂ (λ (x : List ℕ) (v : World). x ++ end_text v.player 0 0) (sounded-append lines last fresh_world) (played-append lines last fresh_world))
    ∙ sym (rest-half (all_lines s) fresh_world 1 (every_append Playable lines last (score-playable input) (last-playable s.clock)))
