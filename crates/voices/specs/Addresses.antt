-- Addresses: wavetables to 0x7FF, then eight blocks of 32 to 0x8FF; 0x800 is a multiple of 256.
use Rattle.std.specs.Prelude.{Bool, true, cond, ℕ, ◌/◌, ◌%◌, eqb, ltb}
use Rattle.sizes.specs.Sizes.{num_channels, registers_end, wavetables_size}

abbrev pub channel_of : ℕ → ℕ
channel_of address = address / 32 % num_channels

abbrev pub offset_of : ℕ → ℕ
offset_of address = address % 32

-- whether a block's offset is a control register's; at the others PCM registers are written
abbrev pub is_control : ℕ → Bool
is_control offset = cond (ltb offset 16) true (eqb offset 26)

-- a test of an address: in the wavetables, in the blocks, above
abbrev pub by_address : {A : Type 0} → ℕ → A → A → A → A
by_address address wavetable block above = cond (ltb address wavetables_size) wavetable (cond (ltb address registers_end) block above)
