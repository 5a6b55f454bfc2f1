-- How loud some values are: the sum of their squares, how many of them 16 bits do not hold, the largest of a voice.
use Rattle.std.specs.Prelude.{ℕ, zero, suc, ◌+◌, ◌*◌, ◌/◌, ◌%◌, ◌^◌, max, Bool, true, false, cond, List, length, ℤ, pos, negsuc, int_lt, nat_le, slice_index_or, unsigned_abs}
use Rattle.sizes.specs.Sizes.{num_channels, stems_per_frame}
use Rattle.log_lines.specs.Texts.{peak_of}
use Rattle.levels.specs.declared.SideLevel.{SideLevel}

abbrev pub square_of : ℤ → ℕ
square_of z = unsigned_abs z * unsigned_abs z

-- 1 where 16 bits do not hold a value
abbrev pub over_of : ℤ → ℕ
over_of z = cond (int_lt z (negsuc 32767)) 1 (cond (int_lt (pos 32767) z) 1 0)

abbrev pub measure_of : Bool → ℤ → ℕ
measure_of overs z = cond overs (over_of z) (square_of z)

-- a sum of 64 bits with the squares of the first n values, or with how many of them are over
unfoldable pub sum_with : Bool → ℕ → List ℤ → ℕ → ℕ
sum_with overs before side zero = before
sum_with overs before side (suc n) = (sum_with overs before side n + measure_of overs (slice_index_or side n (pos 0))) % 2 ^ 64

abbrev pub side_level : ℕ → ℕ → ℕ → SideLevel
side_level peak squares overs = record { peak = peak; squares = squares; overs = overs }

-- a side with more frames, not clamped
unfoldable pub with_frames : SideLevel → List ℤ → SideLevel
with_frames level side =
    side_level (peak_of level.peak side (length side)) (sum_with false level.squares side (length side)) (sum_with true level.overs side (length side))

-- the largest of a number and the sizes of a channel's stems in the first n frames; there is no channel above 7
unfoldable pub stem_peak : ℕ → List ℤ → ℕ → ℕ → ℕ
stem_peak before stems channel zero = before
stem_peak before stems channel (suc n) =
    max (max (stem_peak before stems channel n) (unsigned_abs (slice_index_or stems (stems_per_frame * n + 2 * channel) (pos 0)))) (unsigned_abs (slice_index_or stems (stems_per_frame * n + 2 * channel + 1) (pos 0)))

unfoldable pub voice_peak : ℕ → List ℤ → ℕ → ℕ
voice_peak before stems channel = cond (nat_le num_channels channel) before (stem_peak before stems channel (length stems / stems_per_frame))
