-- The noise generator's shift register.
use Rattle.std.specs.Prelude.{ℕ, ◌+◌, ◌*◌, ◌/◌, ◌%◌, ◌^◌, Bool, cond}
use Rattle.num.specs.Bits.{with_bit, selected}

-- bit 0 xor bit 1
abbrev pub plain_bit : ℕ → ℕ
plain_bit lfsr = (lfsr % 2 + lfsr / 2 % 2) % 2

-- the low 23 bits of param 1 × 65,536 + param 2
abbrev pub custom_taps : ℕ → ℕ → ℕ
custom_taps param1 param2 = (param1 * 65536 + param2) % 2 ^ 23

-- the parity of the bits that the taps select
abbrev pub tap_bit : ℕ → ℕ → ℕ
tap_bit lfsr taps = selected 23 lfsr taps % 2

-- one bit down, and the new bit at 22: nothing is cut off above
abbrev pub shifted : ℕ → ℕ → ℕ
shifted lfsr bit = with_bit 22 bit (lfsr / 2)

unfoldable pub next_lfsr : ℕ → Bool → ℕ → ℕ → ℕ
next_lfsr lfsr custom param1 param2 = shifted lfsr (cond custom (tap_bit lfsr (custom_taps param1 param2)) (plain_bit lfsr))

-- 255 or 0 in Q8.8, by the lowest bit
abbrev pub noise_value : ℕ → ℕ
noise_value lfsr = lfsr % 2 * 65280
