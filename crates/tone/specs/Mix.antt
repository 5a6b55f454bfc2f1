-- From a centred Q8.8 value to the sides of a frame. Every division goes toward zero.
use Rattle.std.specs.Prelude.{ℕ, ◌+◌, ◌-◌, ◌/◌, ◌%◌, ◌^◌, ℤ, pos, negsuc, ◌+ℤ◌, ◌*ℤ◌, int_div}
use Rattle.std.specs.Int.Signed.{shr_z}
use Rattle.std.specs.Int.{w32}
use Rattle.std.proofs.Common.{to_z}
use Rattle.num.specs.Integers.{up, down, clamp, clamp16}

-- a stream's value has 24 bits; one beyond them counts as the nearest
abbrev pub stream_value : ℤ → ℤ
stream_value q8 = clamp q8 (negsuc 8388607) (pos 8388607)

-- the whole samples, rounded down
abbrev pub last_sample_of : ℤ → ℤ
last_sample_of q8 = shr_z q8 (2 ^ 8)

unfoldable pub stream_last_sample : ℤ → ℤ
stream_last_sample q8 = shr_z (stream_value q8) (2 ^ 8)

unfoldable pub volume_of : ℤ → ℕ → ℤ
volume_of q8 volume = int_div (q8 *ℤ pos volume) (pos 1024)

unfoldable pub stream_volume_of : ℤ → ℕ → ℤ
stream_volume_of q8 volume = int_div (stream_value q8 *ℤ pos volume) (pos 65280)

unfoldable pub master_gain : ℤ → ℤ
master_gain sample = int_div (int_div sample (pos 2)) (pos 4)

-- the weights of the left and the right side
abbrev pub high_nibble : ℕ → ℕ
high_nibble panpot = panpot / 16

abbrev pub low_nibble : ℕ → ℕ
low_nibble panpot = panpot % 16

unfoldable pub pan : ℤ → ℕ → ℤ
pan sample weight = int_div (sample *ℤ pos weight) (pos 15)

abbrev pub saturating_add : ℤ → ℤ → ℤ
saturating_add a b = clamp16 (a +ℤ b)

-- the 32 low bits of an integer of more than -2^32, read in two's complement
abbrev pub wrapped : ℤ → ℤ
wrapped z = to_z w32 ((up z + (2 ^ 32 - down z)) % 2 ^ 32)

unfoldable pub wrapping_add : ℤ → ℤ → ℤ
wrapping_add a b = wrapped (a +ℤ b)
