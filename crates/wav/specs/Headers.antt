-- The header of a WAV file, by the format's public description: a RIFF chunk of form WAVE, in which a format chunk of plain PCM and the
-- samples' chunk stand; every number is written low byte first.
use Rattle.std.specs.Prelude.{cond, List, [], ◌∷◌, ◌++◌, ℕ, ◌+◌, ◌*◌, ◌/◌, ◌%◌, leb}
use Rattle.sqv4_writer.specs.Packing.{bytes_of}

-- the bytes of a sample of every channel; a sample's bits take whole bytes
abbrev pub block_align : ℕ → ℕ → ℕ
block_align channels bits = channels * ((bits + 7) / 8)

-- the largest size that four bytes hold
abbrev pub largest_size : ℕ
largest_size = 4294967295

-- what a RIFF chunk holds: 36 bytes ahead of the samples, and behind an odd number of them one byte more
abbrev pub riff_size : ℕ → ℕ
riff_size size = 36 + size + size % 2

-- a size in the header of so many bytes of samples; of more than a RIFF chunk can hold, or where their number is not known, the largest
unfoldable pub size_in : ℕ → ℕ → ℕ
size_in size own = cond (leb (riff_size size) largest_size) own largest_size

-- `fmt `, 16 bytes: PCM, channels, frames and bytes a second, bytes a frame, bits of a sample
unfoldable pub format_chunk : ℕ → ℕ → ℕ → List ℕ
format_chunk channels rate bits =
    (102 ∷ 109 ∷ 116 ∷ 32 ∷ []) ++ (bytes_of 4 16 ++ (bytes_of 2 1 ++ (bytes_of 2 channels ++ (bytes_of 4 rate
    ++ (bytes_of 4 (rate * block_align channels bits) ++ (bytes_of 2 (block_align channels bits) ++ bytes_of 2 bits))))))

-- `RIFF`, `WAVE`, the format, `data`
unfoldable pub wav_header : ℕ → ℕ → ℕ → ℕ → List ℕ
wav_header channels rate bits size =
    (82 ∷ 73 ∷ 70 ∷ 70 ∷ []) ++ (bytes_of 4 (size_in size (riff_size size)) ++ ((87 ∷ 65 ∷ 86 ∷ 69 ∷ []) ++ (format_chunk channels rate bits
    ++ ((100 ∷ 97 ∷ 116 ∷ 97 ∷ []) ++ bytes_of 4 (size_in size size)))))
