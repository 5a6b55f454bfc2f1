-- Frames written out as `C` lines, and how far a log is written out.
use Rattle.std.specs.Prelude.{List, [], ◌∷◌, ◌++◌, ℕ, suc}
use Rattle.decimal.specs.Written.{decimal}
use Rattle.timed_log.specs.declared.Clockwork.{Clockwork}
use Rattle.timed_log.specs.Lines.{due_already}

-- a `C` line has at most so many frames
abbrev pub clock_most : ℕ
clock_most = 1000

-- ---- frames
-- the line that sounds so many frames, and the same with its byte 10
unfoldable pub clock_line : ℕ → List ℕ
clock_line frames = 67 ∷ 44 ∷ decimal frames

abbrev pub clock_text : ℕ → List ℕ
clock_text frames = clock_line frames ++ (10 ∷ [])

-- ---- a clockwork: the frames that are written out, and the lines that stand behind them
abbrev pub clockwork : ℕ → ℕ → Clockwork
clockwork frames lines = record { frames = frames; lines = lines }

abbrev pub no_frames : Clockwork
no_frames = clockwork 0 0

-- after a line with a stamp
unfoldable pub applied : Clockwork → ℕ → Clockwork
applied clock stamp = clockwork stamp (suc (due_already clock stamp))
