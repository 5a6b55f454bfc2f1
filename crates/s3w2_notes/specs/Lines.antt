-- The lines of the sums of note and semitones.
use Rattle.std.specs.Prelude.{List, [], ◌∷◌, ◌++◌, ℕ, suc, ℤ, pos, ◌-ℤ◌}
use Rattle.output.specs.declared.Output.{Output}
use Rattle.output.specs.Output.{Put, Puts}
use Rattle.decimal.specs.Written.{decimal, render}
use Rattle.notes.specs.Pitches.{below_zero, NearestPitch}

-- a sum, a comma, a frequency and byte 10
unfoldable pub sum_line : ℤ → ℕ → List ℕ
sum_line sum frequency = render sum ++ ((44 ∷ []) ++ (decimal frequency ++ (10 ∷ [])))

-- the sum of place k: k - 128
abbrev pub sum_of : ℕ → ℤ
sum_of k = pos k -ℤ pos below_zero

-- a text of k such lines, from the lowest sum on, each with the frequency that the rule leaves its sum
pub data SumLines : ℕ → List ℕ → Type 0 where
  none : SumLines 0 []
  more : {k : ℕ} {text : List ℕ} (frequency : ℕ) → SumLines k text → NearestPitch k frequency → SumLines (suc k) (text ++ sum_line (sum_of k) frequency)

-- line k of them, counted from 0, was put into a buffer
pub record LinePut (before after : Output) (k : ℕ) : Type 0 where
  pub frequency : ℕ
  pub nearest : NearestPitch k frequency
  pub put : Puts before after (sum_line (sum_of k) frequency)

-- the first k lines were, from the buffer's start on
pub record LinesPut (before after : List ℕ) (k r : ℕ) : Type 0 where
  pub text : List ℕ
  pub lines : SumLines k text
  pub put : Put before after 0 text r
