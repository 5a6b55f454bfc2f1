-- The fields of a voice line, counted from 0. Each is a number; a sample's number is its 16 bits.
use Rattle.std.specs.Prelude.{Bool, true, cond, List, [], ◌∷◌, ℕ, ◌-◌, ◌%◌, eqb, leb, ltb, ℤ, get_or}
use Rattle.std.specs.Int.{w16}
use Rattle.std.proofs.Common.{to_z}
use Rattle.sizes.specs.Sizes.{fifo_capacity}
use Rattle.cores.specs.Sizes.{chip_voices}

-- 25 registers and parts of the state, 256 wavetable bytes, the queue's count, and at most 2,048 samples
abbrev pub states : ℕ
states = 25

abbrev pub counted : ℕ
counted = 281

abbrev pub fixed : ℕ
fixed = 282

abbrev pub all : ℕ
all = 2330

-- the last sample, the held one and those of the queue are samples
unfoldable pub is_sample : ℕ → Bool
is_sample k = cond (eqb k 19) true (cond (eqb k 21) true (leb fixed k))

-- the sample of a number
unfoldable pub sample_of_number : ℕ → ℤ
sample_of_number n = to_z w16 (n % 65536)

-- voice, frequency, waveform, volume, panpot, modulation type, target, mode, param 1, param 2,
-- start, end, loop, PCM control, sample control, active,
-- phase, old phase, LFSR, last sample, slew, held, hold, sub-tick, latch
abbrev pub mosts : List ℕ
mosts =
    (chip_voices - 1) ∷ 65535 ∷ 5 ∷ 255 ∷ 255 ∷ 6 ∷ 7 ∷ 1 ∷ 65535 ∷ 65535
    ∷ 16777215 ∷ 16777215 ∷ 16777215 ∷ 255 ∷ 7 ∷ 1
    ∷ 18446744073709551615 ∷ 34359738367 ∷ 4294967295 ∷ 65535 ∷ 65280 ∷ 65535 ∷ 65535 ∷ 3 ∷ 255 ∷ []

-- the greatest number of a field; `fifo`: the version has FIFO voices
unfoldable pub most_of : Bool → ℕ → ℕ
most_of fifo k =
    cond (eqb k 2) (cond fifo 5 4)
    (cond (ltb k states) (get_or mosts k 0)
    (cond (ltb k counted) 255
    (cond (eqb k counted) fifo_capacity
    65535)))
