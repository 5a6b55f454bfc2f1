-- Samples of 16 bits as bytes, the low one first.
use Rattle.std.specs.Prelude.{cond, List, [], ◌++◌, ℕ, zero, suc, ◌+◌, ◌*◌, leb, ℤ, pos, get_or}
use Rattle.std.specs.Int.{w16}
use Rattle.std.proofs.Common.{of_z}
use Rattle.sizes.specs.Sizes.{num_channels, stems_per_frame}
use Rattle.decimal.specs.Written.{each}
use Rattle.sqv4_writer.specs.Packing.{bytes_of}

unfoldable pub sample_bytes : ℤ → List ℕ
sample_bytes z = bytes_of 2 (of_z w16 z)

unfoldable pub frame_bytes : ℤ → ℤ → List ℕ
frame_bytes left right = sample_bytes left ++ sample_bytes right

-- samples one behind the other
unfoldable pub samples_bytes : List ℤ → List ℕ
samples_bytes samples = each (λ (z : ℤ). sample_bytes z) samples

-- n frames: each its left sample and its right one
unfoldable pub frames_bytes : (ℕ → ℤ) → (ℕ → ℤ) → ℕ → List ℕ
frames_bytes left right zero = []
frames_bytes left right (suc n) = frames_bytes left right n ++ frame_bytes (left n) (right n)

-- the first n frames of two sides
abbrev pub sides_bytes : List ℤ → List ℤ → ℕ → List ℕ
sides_bytes left right n = frames_bytes (λ i. get_or left i (pos 0)) (λ i. get_or right i (pos 0)) n

-- those of a channel of stems: a frame has 16, a left and a right one for each channel; there is none above 7
abbrev pub left_stem : ℕ → List ℤ → ℕ → ℤ
left_stem channel stems i = get_or stems (stems_per_frame * i + 2 * channel) (pos 0)

abbrev pub right_stem : ℕ → List ℤ → ℕ → ℤ
right_stem channel stems i = get_or stems (stems_per_frame * i + 2 * channel + 1) (pos 0)

unfoldable pub channel_bytes : ℕ → List ℤ → ℕ → List ℕ
channel_bytes channel stems n = cond (leb num_channels channel) [] (frames_bytes (left_stem channel stems) (right_stem channel stems) n)
