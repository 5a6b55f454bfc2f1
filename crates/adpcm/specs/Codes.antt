-- SQV4's codes: what one does to the decoder, how it is packed, and the volume rules.
use Rattle.std.specs.Prelude.{ℕ, zero, suc, ◌+◌, ◌*◌, ◌/◌, ◌%◌, ◌^◌, cond, List, [], ◌∷◌, ℤ, pos, negsuc, ◌+ℤ◌, ◌*ℤ◌, ◌==◌, bit_or, int_div, int_lt, slice_index, slice_index_or, unsigned_abs, Result, Ok, Err}
use Rattle.std.specs.Int.Signed.{shr_z}
use Rattle.num.specs.Integers.{signed, clamp16}
use Rattle.num.specs.Bytes.{field}
use Rattle.adpcm.specs.declared.Variant.{Variant}
use Rattle.adpcm.specs.declared.Variant.TheVariants.{H, L, LPlus}
use Rattle.adpcm.specs.declared.UnknownVariant.{UnknownVariant}
use Rattle.adpcm.specs.declared.State.{State}
use Rattle.adpcm.specs.Ima.{step_size, difference, index_table, index_after, ima_at}

-- ---- variants
abbrev pub variant_of : ℕ → Result Variant UnknownVariant
variant_of b = cond (b == 0) (Ok H) (cond (b == 1) (Ok L) (cond (b == 2) (Ok LPlus) (Err (record { byte = b }))))

-- a variant's number in a header
abbrev pub variant_number : Variant → ℕ
variant_number H = 0
variant_number L = 1
variant_number LPlus = 2

-- the bits of a code
abbrev pub bits_of : Variant → ℕ
bits_of H = 4
bits_of L = 3
bits_of LPlus = 3

-- the bytes of 63 codes
abbrev pub payload_bytes : Variant → ℕ
payload_bytes k = (63 * bits_of k + 7) / 8

-- a fragment of version 3: volume, step index, 63 codes; an older one: volume, 64 codes
abbrev pub fragment_size : Variant → ℕ
fragment_size k = 2 + payload_bytes k

abbrev pub legacy_fragment_size : Variant → ℕ
legacy_fragment_size k = 1 + 64 * bits_of k / 8

-- ---- one code
-- L and L+: the eighths of a step that two bits select; version 1 had its own for L+
unfoldable pub levels_of : ℕ → Variant → List ℕ
levels_of version H = []
levels_of version L = 1 ∷ 3 ∷ 5 ∷ 7 ∷ []
levels_of version LPlus = cond (version == 1) (10 ∷ 11 ∷ 12 ∷ 14 ∷ []) (1 ∷ 2 ∷ 3 ∷ 14 ∷ [])

abbrev pub level_difference : List ℕ → ℕ → ℕ → ℕ
level_difference levels step code = (slice_index levels (code % 4) * step + 4) / 8

-- the difference that a code stands for, at a step size and in a state
unfoldable pub delta_at : ℕ → Variant → ℕ → ℕ → ℤ
delta_at version H step code = signed (code / 8 % 2 == 1) (difference step code)
delta_at version L step code = signed (code / 4 % 2 == 1) (level_difference (levels_of version L) step code)
delta_at version LPlus step code = signed (code / 4 % 2 == 1) (level_difference (levels_of version LPlus) step code)

unfoldable pub delta_of : ℕ → Variant → State → ℕ → ℤ
unfolding delta_at
delta_of version k s code = delta_at version k (step_size s.index) code

unfoldable pub level_indexes : List ℤ
level_indexes = negsuc 0 ∷ pos 2 ∷ pos 4 ∷ pos 6 ∷ []

-- how far it moves the index
unfoldable pub adjust_of : Variant → ℕ → ℤ
adjust_of H code = slice_index_or index_table (code % 16) (pos 0)
adjust_of L code = slice_index_or level_indexes (code % 4) (pos 0)
adjust_of LPlus code = slice_index_or level_indexes (code % 4) (pos 0)

abbrev pub update_of : State → ℤ → ℤ → State
update_of s delta adjust = record { predictor = clamp16 (s.predictor +ℤ delta); index = index_after s.index adjust }

-- the decoder's state after a code, at a step size and at the state's own. A code of variant H is the IMA's
unfoldable pub decode_at : ℕ → Variant → State → ℕ → ℕ → State
decode_at version H s step code = ima_at s step code
decode_at version L s step code = update_of s (delta_at version L step code) (adjust_of L code)
decode_at version LPlus s step code = update_of s (delta_at version LPlus step code) (adjust_of LPlus code)

unfoldable pub decode_code : ℕ → Variant → State → ℕ → State
unfolding decode_at
decode_code version k s code = decode_at version k s (step_size s.index) code

-- ---- the volume, in 255ths
-- version 3: to the nearest, a tie away from zero
abbrev pub applied_volume : ℤ → ℕ → ℤ
applied_volume p volume = signed (int_lt p (pos 0)) ((unsigned_abs p * volume + 127) / 255)

-- versions 1 and 2: toward zero
abbrev pub legacy_volume : ℤ → ℕ → ℤ
legacy_volume p volume = int_div (p *ℤ pos volume) (pos 255)

-- ---- packed codes, the first lowest; past the last byte there are zeros
-- n bytes from bit `at` on, one over the other
unfoldable pub overlaid : List ℕ → ℕ → ℕ → ℕ
overlaid payload at zero = 0
overlaid payload at (suc n) = bit_or (overlaid payload at n) (field payload (at + 8 * n) 8)

-- a code of any width in a byte: its bit i is set at place i % 8, so the bytes of a wider one lie over each other
abbrev pub code_from : List ℕ → ℕ → ℕ → ℕ
code_from payload at bits = bit_or (overlaid payload at (bits / 8)) (field payload (at + 8 * (bits / 8)) (bits % 8))

-- the code of a sample: the bit at which it begins is a number of 64 bits
abbrev pub code_at : List ℕ → ℕ → ℕ → ℕ
code_at payload sample bits = code_from payload (sample * bits % 2 ^ 64) bits
