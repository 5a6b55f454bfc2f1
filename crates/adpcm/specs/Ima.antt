-- One code of the IMA's ADPCM, after its Recommended Practices for Enhancing Digital Audio Compatibility in Multimedia Systems (1992):
-- the step size table, the index table, the difference that a code's bits select from the step, and both clamps.
use Rattle.std.specs.Prelude.{ℕ, ◌+◌, ◌*◌, ◌/◌, ◌%◌, min, cond, List, [], ◌∷◌, ℤ, pos, negsuc, ◌+ℤ◌, ◌-ℤ◌, ◌==◌, slice_index, slice_index_or, unsigned_abs}
use Rattle.num.specs.Integers.{clamp, clamp16}
use Rattle.adpcm.specs.declared.State.{State}

unfoldable pub step_sizes : List ℕ
step_sizes = 7 ∷ 8 ∷ 9 ∷ 10 ∷ 11 ∷ 12 ∷ 13 ∷ 14 ∷ 16 ∷ 17 ∷ 19 ∷ 21 ∷ 23 ∷ 25 ∷ 28 ∷ 31 ∷ 34 ∷ 37 ∷ 41 ∷ 45 ∷ 50 ∷ 55 ∷ 60 ∷ 66 ∷ 73 ∷ 80 ∷ 88 ∷ 97 ∷ 107 ∷ 118 ∷ 130 ∷ 143 ∷ 157 ∷ 173 ∷ 190 ∷ 209 ∷ 230 ∷ 253 ∷ 279 ∷ 307 ∷ 337 ∷ 371 ∷ 408 ∷ 449 ∷ 494 ∷ 544 ∷ 598 ∷ 658 ∷ 724 ∷ 796 ∷ 876 ∷ 963 ∷ 1060 ∷ 1166 ∷ 1282 ∷ 1411 ∷ 1552 ∷ 1707 ∷ 1878 ∷ 2066 ∷ 2272 ∷ 2499 ∷ 2749 ∷ 3024 ∷ 3327 ∷ 3660 ∷ 4026 ∷ 4428 ∷ 4871 ∷ 5358 ∷ 5894 ∷ 6484 ∷ 7132 ∷ 7845 ∷ 8630 ∷ 9493 ∷ 10442 ∷ 11487 ∷ 12635 ∷ 13899 ∷ 15289 ∷ 16818 ∷ 18500 ∷ 20350 ∷ 22385 ∷ 24623 ∷ 27086 ∷ 29794 ∷ 32767 ∷ []

-- by a code's four bits
unfoldable pub index_table : List ℤ
index_table = negsuc 0 ∷ negsuc 0 ∷ negsuc 0 ∷ negsuc 0 ∷ pos 2 ∷ pos 4 ∷ pos 6 ∷ pos 8 ∷ negsuc 0 ∷ negsuc 0 ∷ negsuc 0 ∷ negsuc 0 ∷ pos 2 ∷ pos 4 ∷ pos 6 ∷ pos 8 ∷ []

-- the step size at an index; an index above 88 counts as 88
unfoldable pub step_size : ℕ → ℕ
step_size i = slice_index step_sizes (min i 88)

-- a whole step for bit 2, half of one for bit 1, a quarter for bit 0, and always an eighth
unfoldable pub difference : ℕ → ℕ → ℕ
difference step code = code / 4 % 2 * step + code / 2 % 2 * (step / 2) + code % 2 * (step / 4) + step / 8

-- an index moved by a table's entry, kept within the step size table
unfoldable pub index_after : ℕ → ℤ → ℕ
index_after i a = unsigned_abs (clamp (pos (min i 88) +ℤ a) (pos 0) (pos 88))

-- a code at a step size; bit 3 is the sign
unfoldable pub ima_at : State → ℕ → ℕ → State
ima_at s step code =
    let d = difference step code in
    record {
      predictor = clamp16 (cond (code / 8 % 2 == 1) (s.predictor -ℤ pos d) (s.predictor +ℤ pos d));
      index = index_after s.index (slice_index_or index_table (code % 16) (pos 0));
    }

unfoldable pub ima_code : State → ℕ → State
unfolding ima_at
ima_code s code = ima_at s (step_size s.index) code
