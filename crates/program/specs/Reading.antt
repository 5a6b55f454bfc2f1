-- What a read finds, and a line in a buffer. What is read is not promised: no contract of the C library's calls says it.
use Rattle.std.specs.Prelude.{◌≡◌, ℕ, ◌<◌, ◌≤◌, min, List, length, ◌≢◌, slice_index, slice_index_or, Option, Some, None, Result, Ok, Err}
use Rattle.program.specs.declared.BufferLine.{BufferLine}
use Rattle.program.specs.declared.Place.{Place}
use Rattle.program.specs.declared.Place.TheVariants.{Going, Ended, Stopped}

-- what stands in a buffer of a length after a read behind its first `kept` bytes
abbrev pub Filled : {E : Type 0} → ℕ → ℕ → Result (Option ℕ) E → Type 0
Filled length kept (Ok (Some n)) = (min kept length ≤ n) × (n ≤ length)
Filled length kept (Ok None) = Unit {0}
Filled length kept (Err e) = Unit {0}

-- where a run over a log goes on in a buffer of a length, of which so many bytes were kept: they stand before what was read behind
-- them, or are what the input ended with
abbrev pub Refilled : ℕ → ℕ → ℕ → Place → Type 0
Refilled length kept number (Going from filled n) = (from ≡ 0) × (min kept length ≤ filled) × (filled ≤ length) × (n ≡ number)
Refilled length kept number (Ended rest n) = (rest ≡ kept) × (n ≡ number)
Refilled length kept number Stopped = Unit {0}

-- no byte 10 from one place to before another
abbrev pub Open : List ℕ → ℕ → ℕ → Type 0
Open text from to = (i : ℕ) → from ≤ i → i < to → slice_index text i ≢ 10

-- a line that was found: its bytes, among those that were read, and the byte 10 behind them
pub record Closed (text : List ℕ) (from to filled : ℕ) : Type 0 where
  pub begins : from ≤ to
  pub within : to < filled
  pub closing : slice_index_or text to 0 ≡ 10
  pub before : Open text from to

abbrev pub LineIn : List ℕ → Option BufferLine → Type 0
LineIn text (Some line) = Closed text line.from line.to line.filled
LineIn text None = Unit {0}
