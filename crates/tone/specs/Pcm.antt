-- A PCM voice's places in the RAM, and its phase after a tick.
use Rattle.std.specs.Prelude.{ℕ, zero, suc, ◌+◌, ◌-◌, ◌*◌, ◌/◌, ◌%◌, ◌^◌, Bool, true, false, cond, ◌==◌, bit_and, nat_lt}
use Rattle.sizes.specs.Sizes.{ram_least}

-- whether n is among k powers of two, p the first
abbrev pub power_from : ℕ → ℕ → ℕ → Bool
power_from zero p n = false
power_from (suc k) p n = cond (n == p) true (power_from k (p * 2) n)

-- a power of two from 256 to 16,777,216: the 17 from 2^8 on
unfoldable pub is_ram_length : ℕ → Bool
is_ram_length n = power_from 17 ram_least n

-- the position after the start, in 64 bits, masked by the length less one
unfoldable pub pcm_address : ℕ → ℕ → ℕ → ℕ
pcm_address position start length = bit_and ((position + start) % 2 ^ 64) (length - 1)

abbrev pub loops : ℕ → Bool
loops control = control / 2 % 2 == 1

-- the second tap: after the last sample the loop's start, or the last sample itself
unfoldable pub pcm_next : ℕ → ℕ → ℕ → ℕ → ℕ → ℕ
pcm_next address end again control length =
    cond (nat_lt ((address + 1) % 2 ^ 64) end) (bit_and ((address + 1) % 2 ^ 64) (length - 1))
    (cond (loops control) (bit_and again (length - 1)) address)

-- the phase after the sample at an address is given: on, or to the loop, or held at the end
unfoldable pub pcm_phase_after : ℕ → ℕ → ℕ → ℕ → ℕ → ℕ → ℕ → ℕ
pcm_phase_after phase address start end again control step =
    cond (nat_lt address end) ((phase + step) % 2 ^ 64)
    (cond (loops control) ((again - start) * 2 ^ 29) ((end - start) * 2 ^ 29))

-- silence: from the end on, without a loop
unfoldable pub pcm_is_over : ℕ → ℕ → ℕ → Bool
pcm_is_over address end control = cond (nat_lt address end) false (cond (loops control) false true)
