-- A timed log: what is due in it, the plain log that it is, and what it prints.
use Rattle.std.specs.Prelude.{Ok, Err, cond, List, [], ◌∷◌, ◌++◌, ℕ, suc, ◌-◌, ◌/◌, ◌%◌, eqb, ltb, length, drop, replicate}
use Rattle.log_lines.specs.declared.LineFault.TheVariants.{Malformed}
use Rattle.log_lines.specs.Lines.{parsed_line, number_of}
use Rattle.log_lines.specs.Texts.{bad_line}
use Rattle.log_player.specs.Worlds.{World, fresh_world}
use Rattle.log_player.specs.Applied.{after_line, printed}
use Rattle.log_player.specs.Logs.{end_text}
use Rattle.log_resume.specs.Cuts.{half, played}
use Rattle.timed_log.specs.declared.Clockwork.{Clockwork}
use Rattle.timed_log.specs.Lines.{TimedLine, due_of, judged}
use Rattle.timed_log.specs.Unrolled.{clock_most, clock_line, no_frames, applied}

-- ---- what is due: a plain line, and the frame before which it is played
pub record DueLine : Type 0 where
  pub stamp : ℕ
  pub line : List ℕ

abbrev pub due_line : ℕ → List ℕ → DueLine
due_line stamp line = record { stamp = stamp; line = line }

-- how a log ends: after its last line, or at a bad one, its number and why
pub data End : Type 0 where
  over : End
  stop : ℕ → ℕ → End

-- the lines before that, the clockwork there, and the end
pub record Score : Type 0 where
  pub dues : List DueLine
  pub clock : Clockwork
  pub end : End

abbrev pub ends : Clockwork → End → Score
ends clock end = record { dues = []; clock = clock; end = end }

abbrev pub due_before : DueLine → Score → Score
due_before d more = record { dues = d ∷ more.dues; clock = more.clock; end = more.end }

-- a line, and what follows it
abbrev pub line_scored : Clockwork → ℕ → List ℕ → (Clockwork → Score) → TimedLine → Score
line_scored clock number line more (Ok due) = due_before (due_line due.stamp (drop due.from line)) (more (applied clock due.stamp))
line_scored clock number line more (Err why) = ends clock (stop number (number_of why))

-- the rest of a log, from line `number` on, of which the bytes `line` were read already
unfoldable pub scored : Clockwork → ℕ → List ℕ → List ℕ → Score
scored clock number line [] = ends clock (cond (eqb (length line) 0) over (stop number (number_of Malformed)))
scored clock number line (c ∷ cs) =
    cond (eqb c 10)
    (line_scored clock number line (λ (after : Clockwork). scored after (suc number) [] cs) (judged clock (due_of line)))
    (scored clock number (line ++ (c ∷ [])) cs)

abbrev pub score : List ℕ → Score
score input = scored no_frames 1 [] input

-- ---- the plain log
-- the lines that sound any number of frames: thousands, and what is left
unfoldable pub gap_lines : ℕ → List (List ℕ)
gap_lines gap = replicate (gap / clock_most) (clock_line clock_most) ++ cond (eqb (gap % clock_most) 0) [] (clock_line (gap % clock_most) ∷ [])

-- behind so many frames
abbrev pub unrolled_lines : ℕ → List DueLine → List (List ℕ)
unrolled_lines frames [] = []
unrolled_lines frames (d ∷ dues) = gap_lines (d.stamp - frames) ++ (d.line ∷ unrolled_lines d.stamp dues)

-- the frame of the last stamp
abbrev pub last_lines : Clockwork → List (List ℕ)
last_lines clock = cond (ltb 0 clock.lines) (clock_line 1 ∷ []) []

abbrev pub all_lines : Score → List (List ℕ)
all_lines s = unrolled_lines 0 s.dues ++ last_lines s.clock

abbrev pub plain_log : List ℕ → List ℕ
plain_log input = half (all_lines (score input))

-- ---- what it prints
abbrev pub sounded : World → List (List ℕ) → List ℕ
sounded w [] = []
sounded w (line ∷ lines) = printed w (parsed_line line) ++ sounded (after_line w (parsed_line line)) lines

-- the end: the frame of the last stamp and the peak, or that a line is bad
abbrev pub closing : World → Clockwork → End → List ℕ
closing w clock over = sounded w (last_lines clock) ++ end_text (played w (last_lines clock)).player 0 0
closing w clock (stop number why) = bad_line number why

-- the lines that are written out and not played yet, and the rest of a log behind so many frames
abbrev pub left_text : World → List (List ℕ) → ℕ → Score → List ℕ
left_text w waiting frames s =
    let lines = waiting ++ unrolled_lines frames s.dues in
    sounded w lines ++ closing (played w lines) s.clock s.end

abbrev pub timed_text : List ℕ → List ℕ
timed_text input = left_text fresh_world [] 0 (score input)
