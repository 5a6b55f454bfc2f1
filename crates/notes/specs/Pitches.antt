-- The plain pitch rule: the frequency of a note and semitones, by comparing twelfth powers of whole numbers.
use Rattle.std.specs.Prelude.{Bool, true, cond, ◌&&◌, List, [], ◌∷◌, ℕ, suc, ◌+◌, ◌-◌, ◌*◌, ◌^◌, ◌≤◌, ◌<◌, leb, ltb, ℤ, pos, nat_abs, ◌+ℤ◌}

-- the sums of note and semitones: the lowest is -128, and there are 511
abbrev pub below_zero : ℕ
below_zero = 128

abbrev pub sums : ℕ
sums = 511

-- the largest frequency that a register holds
abbrev pub top_frequency : ℕ
top_frequency = 65535

-- a sum, counted from the lowest: sum + 128, which is never negative
abbrev pub lifted_sum : ℕ → ℤ → ℤ
lifted_sum note semitones = pos (note + below_zero) +ℤ semitones

unfoldable pub sum_at : ℕ → ℤ → ℕ
sum_at note semitones = nat_abs (lifted_sum note semitones)

-- twice the pitch 440 × 2^((sum - 69) / 12), to the twelfth power, times 2^(69 + 128): no power of two is then below 1
unfoldable pub pitch_power : ℕ → ℕ
pitch_power at = 880 ^ 12 * 2 ^ at

-- twice the border between two whole numbers, an odd number, to the twelfth power, times the same
unfoldable pub border_power : ℕ → ℕ
border_power odd = odd ^ 12 * 2 ^ (69 + below_zero)

-- n is the whole number nearest to the pitch, the upper of two on a tie, cut at the largest frequency
pub record NearestPitch (at n : ℕ) : Type 0 where
  pub cut : n ≤ top_frequency
  -- n - 1/2 ≤ pitch
  pub low : border_power (2 * n - 1) ≤ pitch_power at
  -- pitch < n + 1/2
  pub high : n < top_frequency → pitch_power at < border_power (2 * n + 1)

-- the same as a test
abbrev pub is_nearest : ℕ → ℕ → Bool
is_nearest at n =
    leb n top_frequency
    && (leb (border_power (2 * n - 1)) (pitch_power at)
    && cond (ltb n top_frequency) (ltb (pitch_power at) (border_power (2 * n + 1))) true)

-- the test at each entry of a table, the first being that of i
unfoldable pub all_nearest : ℕ → List ℕ → Bool
all_nearest i [] = true
all_nearest i (n ∷ rest) = is_nearest i n && all_nearest (suc i) rest
