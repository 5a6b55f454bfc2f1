-- A timed log frame by frame: before each frame the lines that are due at it, in order.
use Rattle.std.specs.Prelude.{Result, Ok, Err, ◌≡◌, cond, List, [], ◌∷◌, ◌++◌, ℕ, zero, suc, ◌+◌, ◌-◌, eqb}
use Rattle.log_lines.specs.declared.Line.{Line}
use Rattle.log_lines.specs.declared.Line.TheVariants.{Write, WriteRam, Read, Peek, Clock, Version}
use Rattle.log_lines.specs.declared.LineFault.{LineFault}
use Rattle.log_lines.specs.Lines.{parsed_line}
use Rattle.log_player.specs.Worlds.{World}
use Rattle.log_player.specs.Applied.{after_line, printed}
use Rattle.log_resume.specs.Cuts.{played}
use Rattle.timed_as_plain.specs.Scores.{DueLine, unrolled_lines, sounded}

-- the lines that are due at a frame, in order
abbrev pub due_at : ℕ → List DueLine → List (List ℕ)
due_at frame [] = []
due_at frame (d ∷ dues) = cond (eqb d.stamp frame) (d.line ∷ due_at frame dues) (due_at frame dues)

-- the last stamp, that of the frames before where there is none
abbrev pub last_stamp : ℕ → List DueLine → ℕ
last_stamp frames [] = frames
last_stamp frames (d ∷ dues) = last_stamp d.stamp dues

-- the frames that lines sound
abbrev pub frames_by : Result Line LineFault → ℕ
frames_by (Ok (Write a v)) = 0
frames_by (Ok (WriteRam a v)) = 0
frames_by (Ok (Read a)) = 0
frames_by (Ok (Peek a)) = 0
frames_by (Ok (Clock n)) = n
frames_by (Ok (Version v)) = 0
frames_by (Err why) = 0

abbrev pub frames_in : List (List ℕ) → ℕ
frames_in [] = 0
frames_in (line ∷ lines) = frames_by (parsed_line line) + frames_in lines

-- ---- the request's own words: so many frames from one on, before each the lines that are due at it, in order; the world, and the text
unfoldable pub frames_played : World → ℕ → ℕ → List DueLine → World
frames_played w frame zero dues = w
frames_played w frame (suc n) dues = frames_played (after_line (played w (due_at frame dues)) (Ok (Clock 1))) (suc frame) n dues

unfoldable pub by_frames : World → ℕ → ℕ → List DueLine → List ℕ
by_frames w frame zero dues = []
by_frames w frame (suc n) dues =
    sounded w (due_at frame dues)
    ++ (printed (played w (due_at frame dues)) (Ok (Clock 1)) ++ by_frames (after_line (played w (due_at frame dues)) (Ok (Clock 1))) (suc frame) n dues)

-- the lines of a log with its gaps are the frames below its last stamp, each behind its lines, and then the lines of that stamp
pub record ByFrames (w : World) (frame : ℕ) (dues : List DueLine) : Type 0 where
  pub world : played w (unrolled_lines frame dues) ≡ played (frames_played w frame (last_stamp frame dues - frame) dues) (due_at (last_stamp frame dues) dues)
  pub text : sounded w (unrolled_lines frame dues)
      ≡ by_frames w frame (last_stamp frame dues - frame) dues ++ sounded (frames_played w frame (last_stamp frame dues - frame) dues) (due_at (last_stamp frame dues) dues)
