-- An input that is read byte after byte, and what was read of it.
use Rattle.std.specs.Prelude.{ℕ, ◌+◌, ◌-◌, ◌%◌, ◌^◌, min, Bool, true, false, cond, List, [], ◌∷◌, take, replicate, ℤ, ◌==◌, nat_lt, slice_set, Option, Some, None}
use Rattle.sqv4_make.specs.declared.Progress.{Progress}
use Rattle.sqv4_writer.specs.declared.Terms.{Terms}
use Rattle.sqv4_make.specs.Lines.{first_line, sample_line}

-- ---- the program's buffers: the longest file, and the samples of the longest
abbrev pub most_bytes : ℕ
most_bytes = 1048576

abbrev pub most_samples : ℕ
most_samples = 2540727

-- the longest line has 20 bytes
abbrev pub line_size : ℕ
line_size = 20

-- ---- what was read
abbrev pub begun_of : Progress
begun_of = record { line = replicate line_size 0; filled = 0; lines = 0; terms = None; good = true }

abbrev pub spoiled_of : Progress → Progress
spoiled_of m = record { line = m.line; filled = m.filled; lines = m.lines; terms = m.terms; good = false }

-- a line more; lines are counted in 64 bits
abbrev pub counted_of : Progress → Progress
counted_of m = record { line = m.line; filled = 0; lines = (m.lines + 1) % 2 ^ 64; terms = m.terms; good = m.good }

-- ---- a line that is whole
abbrev pub line_read : Progress → List ℕ
line_read m = take (min m.filled line_size) m.line

abbrev pub headed_by : Progress → Option Terms → Progress
headed_by m (Some terms) = record { line = m.line; filled = 0; lines = 1; terms = Some terms; good = true }
headed_by m None = spoiled_of m

abbrev pub sampled_by : Progress → Option ℤ → Progress
sampled_by m (Some x) = counted_of m
sampled_by m None = spoiled_of m

abbrev pub stored_by : List ℤ → ℕ → Option ℤ → List ℤ
stored_by xs at (Some x) = slice_set xs at x
stored_by xs at None = xs

-- the first says the terms, each other is a sample
unfoldable pub ended_of : Progress → Progress
ended_of m = cond (m.lines == 0) (headed_by m (first_line (line_read m))) (sampled_by m (sample_line (line_read m)))

unfoldable pub samples_ended : Progress → List ℤ → List ℤ
samples_ended m xs = cond (m.lines == 0) xs (stored_by xs (m.lines - 1) (sample_line (line_read m)))

-- ---- a byte of a line; a line of more than 20 bytes is none
abbrev pub grown : Progress → ℕ → Progress
grown m b = record { line = slice_set m.line m.filled b; filled = m.filled + 1; lines = m.lines; terms = m.terms; good = m.good }

unfoldable pub kept_of : Progress → ℕ → Progress
kept_of m b = cond (nat_lt m.filled line_size) (grown m b) (spoiled_of m)

-- ---- bytes one after the other, up to a line that is none
unfoldable pub step_of : Progress → ℕ → Progress
step_of m b = cond m.good (cond (b == 10) (ended_of m) (kept_of m b)) m

unfoldable pub samples_step : Progress → ℕ → List ℤ → List ℤ
samples_step m b xs = cond m.good (cond (b == 10) (samples_ended m xs) xs) xs

unfoldable pub fed : Progress → List ℕ → Progress
fed m [] = m
fed m (b ∷ bs) = fed (step_of m b) bs

unfoldable pub samples_fed : Progress → List ℕ → List ℤ → List ℤ
samples_fed m [] xs = xs
samples_fed m (b ∷ bs) xs = samples_fed (step_of m b) bs (samples_step m b xs)

-- the first line is there, and no line is begun
unfoldable pub is_whole : Progress → Bool
is_whole m = cond m.good (cond (m.filled == 0) (nat_lt 0 m.lines) false) false
