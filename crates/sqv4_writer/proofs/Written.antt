-- The bytes of a written file: what its header says, and each of its fragments. Assumes nothing.
use Rattle.std.specs.Prelude.{Ok}
use mathlib.Core.Path.{◌≡◌, refl, ap, ap₂, ◌∙◌, subst}
use mathlib.Core.Bool.{true}
use mathlib.Core.List.{List, [], ◌∷◌, append-nil}
use Prim.Native.Nat.{ℕ, ◌+◌, ◌-◌, ◌*◌, ◌^◌, ◌<◌, ◌≤◌, min}
use native.Mathlib.Nat as N
use native.Mathlib.Omega.{arith}
use lib.IntN.{ℤ}
use lib.ListN.{length, get_or, take, drop, length-append, length-take, length-drop}
use lib.Seq.{sets, sets-eq, take_at, drop_at}
use lib.Pow.{pow_mono}
use Rattle.num.specs.Lists.{part}
use Rattle.num.specs.Bytes.{le}
use Rattle.adpcm.specs.declared.Variant.{Variant}
use Rattle.adpcm.specs.declared.Variant.TheVariants.{H, L, LPlus}
use Rattle.adpcm.specs.declared.State.{State}
use Rattle.adpcm.specs.Codes.{variant_of, variant_number, bits_of, payload_bytes, fragment_size, decode_code}
use Rattle.sqv4.specs.declared.Header.{Header}
use Rattle.sqv4.specs.Files.{magic, header_of, fragment_at}
use Rattle.sqv4_writer.specs.Choice.{code_for, codes_for}
use Rattle.sqv4_writer.specs.Packing.{codes_number, bytes_of, packed}
use Rattle.sqv4_writer.specs.Streams.{header_size, fragment_samples, fragment_count, max_samples, length_for, samples_at, pieces_of, header_bytes, fragment_for, fragments_for, file_of, header_for}
use Rattle.sqv4_writer.proofs.Packed.{Codes, le_bytes, number_lt}
use Rattle.sqv4_writer.proofs.Pieces.{length-pieces, piece-behind}
use Rattle.sqv4_writer.proofs.Filled.{length-codes-for, code-small, eight-codes}
use Rattle.sqv4_writer.proofs.Series.{length-header, length-fragment}

-- ---- a fragment's codes
pub all_codes : (k : Variant) (volume : ℕ) (s : State) (xs : List ℤ) → Codes (bits_of k) (codes_for k volume s xs)
unfolding codes_for
all_codes k volume s [] = tt
all_codes k volume s (x ∷ xs) = (code-small k volume s x, all_codes k volume (decode_code 3 k s (code_for k volume s x)) xs)

module _ (k : Variant) (volume : ℕ) (s : State) (xs : List ℤ) where
  -- no bit past the last
  pub codes-lt : codes_number (bits_of k) (codes_for k volume s xs) < 2 ^ (length xs * bits_of k)
  codes-lt = subst (λ (n : ℕ). codes_number (bits_of k) (codes_for k volume s xs) < 2 ^ (n * bits_of k)) (length-codes-for k volume s xs) (number_lt (bits_of k) (codes_for k volume s xs) (all_codes k volume s xs))

  -- the packed bytes are that number
  pub packed-number : length xs ≤ fragment_samples → le (packed k (codes_for k volume s xs)) ≡ codes_number (bits_of k) (codes_for k volume s xs)
  packed-number few =
      le_bytes (payload_bytes k) (codes_number (bits_of k) (codes_for k volume s xs))
      (N.lt_of_lt_of_le codes-lt (pow_mono (subst (λ (n : ℕ). length xs * bits_of k ≤ 8 * n) (eight-codes k) (N.le_trans (N.mul-le-mul_right (bits_of k) (N.le_trans few (omega arith))) (room (bits_of k))))))
    where
      room : (w : ℕ) → 64 * w ≤ 8 * (8 * w)
      room w = omega arith

-- ---- samples by fragment
pub length-samples-at : (xs : List ℤ) (p : ℕ) → length (samples_at xs p) ≡ min (length xs - p * fragment_samples) fragment_samples
length-samples-at xs p = simp (length-take, length-drop) (omega arith)

pub known-again : (k : Variant) → variant_of (variant_number k) ≡ Ok k
known-again H = refl
known-again L = refl
known-again LPlus = refl

module _ (xs : List ℤ) (k : Variant) (rate volume index : ℕ) where
  abbrev file : List ℕ
  file = file_of xs k rate volume index

  abbrev header : Header
  header = header_for k rate (length xs)

  -- ---- its length
  pub length-file : length file ≡ length_for k (length xs)
  unfolding file_of length_for
  length-file =
      length-append (header_bytes k rate (length xs)) (fragments_for k volume index xs (fragment_count (length xs)))
      ∙ ap₂ (λ (a b : ℕ). a + b) (length-header k rate (length xs)) (length-pieces (λ p. fragment_for k volume index (samples_at xs p)) (fragment_size k) (λ p. length-fragment k volume index (samples_at xs p)) (fragment_count (length xs)))
      ∙ N.add_comm header_size (fragment_count (length xs) * fragment_size k)

  -- ---- its header
  pub is-magic : magic file ≡ true
  unfolding file_of header_bytes bytes_of
  is-magic = refl

  pub bytes-are : (get_or file 4 0 ≡ 3) × (get_or file 5 0 ≡ variant_number k) × (get_or file 6 0 ≡ 1) × (get_or file 7 0 ≡ 0)
  unfolding file_of header_bytes bytes_of
  bytes-are = (refl, refl, refl, refl)

  pub rate-is : rate < 2 ^ 32 → le (part file 8 4) ≡ rate
  unfolding file_of header_bytes bytes_of
  rate-is h = le_bytes 4 rate h

  pub header_is : rate < 2 ^ 32 → length xs ≤ max_samples → header_of file k ≡ header
  unfolding file_of header_bytes bytes_of
  header_is h few = ap₂ (header_for k) (le_bytes 4 rate h) (le_bytes 4 (length xs) (omega arith))

  -- ---- its fragments
  pub fragment-is : (p : ℕ) → p < fragment_count (length xs) → fragment_at file header p ≡ fragment_for k volume index (samples_at xs p)
  unfolding file_of
  fragment-is p h =
      piece-behind (λ q. fragment_for k volume index (samples_at xs q)) (fragment_size k) (λ q. length-fragment k volume index (samples_at xs q))
      (header_bytes k rate (length xs)) header_size (fragment_count (length xs)) p (length-header k rate (length xs)) h

  -- ---- in a buffer: the file is there, and what stood past it
  pub file-there : (out : List ℕ) → length_for k (length xs) ≤ length out → take (length_for k (length xs)) (sets out 0 file) ≡ file
  file-there out h = ap (take (length_for k (length xs))) (sets-eq file out 0 (omega (arith, length-file))) ∙ take_at file (drop (0 + length file) out) (length_for k (length xs)) length-file

  pub rest-there : (out : List ℕ) → length_for k (length xs) ≤ length out → drop (length_for k (length xs)) (sets out 0 file) ≡ drop (length_for k (length xs)) out
  rest-there out h =
      ap (drop (length_for k (length xs))) (sets-eq file out 0 (omega (arith, length-file)))
      ∙ drop_at file (drop (0 + length file) out) (length_for k (length xs)) length-file ∙ ap (λ (n : ℕ). drop n out) (N.zero-add (length file) ∙ length-file)

-- no samples: the bare header
pub bare : (k : Variant) (rate volume index : ℕ) → file_of [] k rate volume index ≡ header_bytes k rate 0
unfolding file_of pieces_of
bare k rate volume index = append-nil (header_bytes k rate 0)
