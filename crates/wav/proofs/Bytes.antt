-- Bytes put one behind the other. Assumes nothing.
use mathlib.Core.Path.{◌≡◌, refl, ap, ◌∙◌, subst}
use mathlib.Core.List.{List, ◌∷◌}
use Prim.Native.Nat.{ℕ, zero, suc, ◌+◌, ◌<◌, ◌≤◌, min}
use native.Mathlib.Numerals.{add-one}
use native.Mathlib.Omega.{arith}
use lib.IntN.{ℤ, pos}
use mir.Syntax.{w16, w64}
use mir.Val.{of_z}
use lib.ListN.{length, get_or, take}
use borrow.Author.Tests.{le-leb, lt-leb}
use Rattle.std.specs.Int.{bytes_low_first, byte_at, to_le_bytes}
use Rattle.decimal.proofs.Writing.{puts-each}
use Rattle.output.specs.declared.Output.{Output}
use Rattle.output.specs.Output.{Put, Puts}
use Rattle.output.proofs.Writing.{puts-append, put-none}
use Rattle.sqv4_writer.specs.Packing.{bytes_of}
use Rattle.sqv4_writer.proofs.Packed.{low-bytes}
use Rattle.wav.specs.Headers.{largest_size, riff_size, size_in, format_chunk, wav_header}
use Rattle.wav.specs.Samples.{sample_bytes, frame_bytes, samples_bytes, frames_bytes, left_stem, right_stem, channel_bytes}

-- ---- numbers
fewer-bytes : (j i k n : ℕ) → j ≤ k → take j (bytes_low_first i k n) ≡ bytes_low_first i j n
fewer-bytes zero i k n h = refl
fewer-bytes (suc j) i zero n h = absurd (omega arith)
fewer-bytes (suc j) i (suc k) n h = ap (λ (l : List ℕ). byte_at i n ∷ l) (fewer-bytes j (suc i) k n (omega arith))

pub puts-low : (s t : Output) (bytes : List ℕ) (count n : ℕ) → count ≤ 8 → bytes ≡ to_le_bytes w64 n → Puts s t (take count bytes) → Puts s t (bytes_of count n)
puts-low s t bytes count n h e p = subst (Puts s t) (ap (take count) e ∙ fewer-bytes count 0 8 n h ∙ low-bytes count n) p

-- ---- sizes
pub held : (size own : ℕ) → size ≤ 4294967258 → own ≡ size_in size own
unfolding size_in
held size own h = rw (le-leb (riff_size size) largest_size (omega arith))

pub not-held : (size own : ℕ) → 4294967258 < size → 4294967295 ≡ size_in size own
unfolding size_in
not-held size own h = rw (lt-leb (riff_size size) largest_size (omega arith))

-- ---- the header: it has 44 bytes
pub header-length : (channels rate bits size : ℕ) → length (wav_header channels rate bits size) ≡ 44
unfolding wav_header format_chunk bytes_of
header-length channels rate bits size = refl

-- ---- samples
pub puts-sample : (s t : Output) (bytes : List ℕ) (z : ℤ) → bytes ≡ to_le_bytes w16 (of_z w16 z) → Puts s t bytes → Puts s t (sample_bytes z)
unfolding sample_bytes
puts-sample s t bytes z e p = subst (Puts s t) (e ∙ low-bytes 2 (of_z w16 z)) p

pub samples-none : (l : List ℕ) (samples : List ℤ) (at e : ℕ) → e ≡ min at (length l) → Put l l at (samples_bytes (take 0 samples)) e
unfolding samples_bytes
samples-none l samples at e h = put-none l at e h

pub samples-next : (s t u : Output) (samples : List ℤ) (i : ℕ) → i < length samples → Puts s t (samples_bytes (take i samples)) → Puts t u (sample_bytes (get_or samples i (pos 0))) → Puts s u (samples_bytes (take (i + 1) samples))
unfolding samples_bytes
samples-next s t u samples i h p q = puts-each (λ (z : ℤ). sample_bytes z) (pos 0) s t u samples i h p q

pub frames-none : (l : List ℕ) (left right : ℕ → ℤ) (at e : ℕ) → e ≡ min at (length l) → Put l l at (frames_bytes left right 0) e
unfolding frames_bytes
frames-none l left right at e h = put-none l at e h

pub frames-next : (s t u : Output) (left right : ℕ → ℤ) (i : ℕ) → Puts s t (frames_bytes left right i) → Puts t u (frame_bytes (left i) (right i)) → Puts s u (frames_bytes left right (i + 1))
unfolding frames_bytes
frames-next s t u left right i p q = rw (add-one i) (puts-append s t u (frames_bytes left right i) (frame_bytes (left i) (right i)) p q)

-- ---- a channel of stems
pub no-channel : (l : List ℕ) (stems : List ℤ) (at r channel n : ℕ) → 7 < channel → r ≡ min at (length l) → Put l l at (channel_bytes channel stems n) r
unfolding channel_bytes
no-channel l stems at r channel n h e = rw (le-leb 8 channel h) (put-none l at r e)

pub a-channel : (s t : Output) (stems : List ℤ) (channel n : ℕ) → channel ≤ 7 → Puts s t (frames_bytes (left_stem channel stems) (right_stem channel stems) n) → Puts s t (channel_bytes channel stems n)
unfolding channel_bytes
a-channel s t stems channel n h p = rw (lt-leb 8 channel (omega arith)) p
