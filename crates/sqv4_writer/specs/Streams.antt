-- A mono file of version 3 made from samples; the calls that are turned away, with document 02's numbers.
use Rattle.std.specs.Prelude.{Bool, true, cond, List, [], ◌∷◌, ◌++◌, ℕ, zero, suc, ◌+◌, ◌*◌, eqb, ltb, ℤ, length, Result, Ok, Err}
use Rattle.std.proofs.lemmas.List.Edits.{sets}
use Rattle.num.specs.Lists.{part}
use Rattle.adpcm.specs.declared.Variant.{Variant}
use Rattle.adpcm.specs.Codes.{variant_number, fragment_size}
use Rattle.sqv4.specs.declared.Header.{Header}
use Rattle.sqv4.specs.Files.{frame_count_of}
use Rattle.sqv4.specs.Decoding.{start_of}
use Rattle.sqv4_writer.specs.declared.StreamError.{StreamError}
use Rattle.sqv4_writer.specs.declared.StreamError.TheVariants.{OutOfTerms, OutputBuffer}
use Rattle.sqv4_writer.specs.Choice.{codes_for, values_for}
use Rattle.sqv4_writer.specs.Packing.{bytes_of, packed}

-- ---- sizes
abbrev pub header_size : ℕ
header_size = 16

-- the samples of a full fragment
abbrev pub fragment_samples : ℕ
fragment_samples = 63

abbrev pub max_step_index : ℕ
max_step_index = 88

-- a header's count has 32 bits
abbrev pub max_samples : ℕ
max_samples = 4294967295

-- the fragments of n samples
abbrev pub fragment_count : ℕ → ℕ
fragment_count n = frame_count_of fragment_samples n

-- the length of a file of n samples
unfoldable pub length_for : Variant → ℕ → ℕ
length_for k n = fragment_count n * fragment_size k + header_size

-- ---- the file
-- the first m pieces, one after the other
unfoldable pub pieces_of : {A : Type 0} → (ℕ → List A) → ℕ → List A
pieces_of f zero = []
pieces_of f (suc m) = pieces_of f m ++ f m

-- the samples of fragment p
abbrev pub samples_at : List ℤ → ℕ → List ℤ
samples_at xs p = part xs (p * fragment_samples) fragment_samples

-- SQV4, version 3, the variant, one channel, 0, the rate and the count of samples
unfoldable pub header_bytes : Variant → ℕ → ℕ → List ℕ
header_bytes k rate n = 83 ∷ 81 ∷ 86 ∷ 52 ∷ 3 ∷ variant_number k ∷ 1 ∷ 0 ∷ (bytes_of 4 rate ++ bytes_of 4 n)

-- volume, step index, codes; each fragment begins anew
unfoldable pub fragment_for : Variant → ℕ → ℕ → List ℤ → List ℕ
fragment_for k volume index xs = volume ∷ index ∷ packed k (codes_for k volume (start_of index) xs)

abbrev pub fragments_for : Variant → ℕ → ℕ → List ℤ → ℕ → List ℕ
fragments_for k volume index xs m = pieces_of (λ p. fragment_for k volume index (samples_at xs p)) m

unfoldable pub file_of : List ℤ → Variant → ℕ → ℕ → ℕ → List ℕ
file_of xs k rate volume index = header_bytes k rate (length xs) ++ fragments_for k volume index xs (fragment_count (length xs))

-- what the check says of it
abbrev pub header_for : Variant → ℕ → ℕ → Header
header_for k rate n =
    record {
      version = 3;
      variant = k;
      channels = 1;
      sample_rate = rate;
      samples_per_channel = n;
      frame_samples = fragment_samples;
      frame_count = fragment_count n;
      frame_size = fragment_size k;
    }

-- the values that the writer chose
unfoldable pub chosen_for : List ℤ → Variant → ℕ → ℕ → List ℤ
chosen_for xs k volume index = pieces_of (λ p. values_for k volume (start_of index) (samples_at xs p)) (fragment_count (length xs))

-- ---- the call
-- no file has them: a rate or a volume of zero, a step index above 88, more samples than a header can count
unfoldable pub out_of_terms : ℕ → ℕ → ℕ → ℕ → Bool
out_of_terms n rate volume index = cond (eqb rate 0) true (cond (eqb volume 0) true (cond (ltb max_step_index index) true (ltb max_samples n)))

-- the answer for n samples and a buffer of `room` bytes
unfoldable pub answer_for : ℕ → Variant → ℕ → ℕ → ℕ → ℕ → Result ℕ StreamError
answer_for n k rate volume index room = cond (out_of_terms n rate volume index) (Err OutOfTerms) (cond (ltb room (length_for k n)) (Err OutputBuffer) (Ok (length_for k n)))

-- the buffer after the call: the file and what stood past it, or what it was
abbrev pub written_into : List ℕ → List ℕ → Result ℕ StreamError → List ℕ
written_into out file (Ok n) = sets out 0 file
written_into out file (Err e) = out

-- document 02's number for a refusal
abbrev pub error_number : StreamError → ℕ
error_number OutOfTerms = 20
error_number OutputBuffer = 21

abbrev pub number_of : Result ℕ StreamError → List ℕ
number_of (Ok n) = []
number_of (Err e) = error_number e ∷ []
