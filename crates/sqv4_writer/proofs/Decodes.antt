-- THE SECOND THEOREM: a file that is written decodes to exactly the values that the writer chose. THE THIRD: each of its codes is the nearest of
-- all after volume, and the smallest of the nearest. Assumes nothing.
use mathlib.Core.Path.{◌≡◌, refl, sym, ap, ap₂, ◌∙◌}
use mathlib.Core.List.{List, [], ◌∷◌, ◌++◌}
use Prim.Native.Nat.{ℕ, zero, suc, ◌+◌, ◌*◌, ◌/◌, ◌%◌, ◌^◌, ◌<◌, ◌≤◌, min}
use native.Mathlib.Nat as N
use native.Mathlib.Omega.{arith}
use lib.IntN.{ℤ}
use lib.ListN.{length, get_or}
use lib.Seq.{sets}
use Rattle.num.specs.Bytes.{field}
use Rattle.adpcm.specs.declared.Variant.{Variant}
use Rattle.adpcm.specs.declared.State.{State}
use Rattle.adpcm.specs.Codes.{bits_of, code_at, decode_code}
use Rattle.sqv4.specs.declared.Header.{Header}
use Rattle.sqv4.specs.Files.{frame_length, fragment_at, inspected}
use Rattle.sqv4.specs.Decoding.{codes_from, sounds, start_of, samples_of}
use Rattle.sqv4.proofs.Sizes.{narrow}
use Rattle.sqv4.proofs.Runs.{code-at}
use Rattle.sqv4.specs.Whole.{samples_from, state_from, state_after, pieces, channel_whole, whole_of, decoded_into}
use Rattle.sqv4_writer.specs.Choice.{value_at, distance_of, last_code, code_for, codes_for, values_for}
use Rattle.sqv4_writer.specs.Packing.{packed}
use Rattle.sqv4_writer.specs.Streams.{fragment_samples, fragment_count, samples_at, pieces_of, fragment_for, file_of, header_for, chosen_for}
use Rattle.sqv4_writer.proofs.Limits.{InTerms}
use Rattle.sqv4_writer.proofs.Nearest.{IsNearest, nearest}
use Rattle.sqv4_writer.proofs.Packed.{number_at}
use Rattle.sqv4_writer.proofs.Filled.{length-codes-for}
use Rattle.sqv4_writer.proofs.Written.{all_codes, packed-number, length-samples-at, fragment-is}
use Rattle.sqv4_writer.proofs.Passes.{passes}

-- ---- packed codes are unpacked
codes-back : (k : Variant) (payload cs : List ℕ) (i : ℕ) → ((j : ℕ) → j < length cs → code_at payload (i + j) (bits_of k) ≡ get_or cs j 0) → codes_from k payload i (length cs) ≡ cs
unfolding codes_from
codes-back k payload [] i e = refl
codes-back k payload (c ∷ cs) i e =
    ap₂ (λ (x : ℕ) (l : List ℕ). x ∷ l) (ap (λ (n : ℕ). code_at payload n (bits_of k)) (sym (N.add-zero i)) ∙ e 0 (omega arith))
    (codes-back k payload cs (suc i) (λ j h. ap (λ (n : ℕ). code_at payload n (bits_of k)) (next i j) ∙ e (suc j) (omega arith)))
  where
    next : (i j : ℕ) → suc i + j ≡ i + suc j
    next i j = omega arith

uncut : (k : Variant) → min (bits_of k) 8 ≡ bits_of k
uncut k = omega (arith, narrow k)

-- the bit at which a code of a fragment begins
early : (k : Variant) (j : ℕ) → j < fragment_samples → (0 + j) * bits_of k < 2 ^ 64
early k j h = let p : (0 + j) * bits_of k ≤ 63 * 4 = N.mul-le-mul {n₁ = 0 + j} {m₁ = bits_of k} {n₂ = 63} {m₂ = 4} (omega arith) (narrow k) in omega (arith, p)

unpacked : (k : Variant) (volume : ℕ) (s : State) (xs : List ℤ) → length xs ≤ fragment_samples → codes_from k (packed k (codes_for k volume s xs)) 0 (length xs) ≡ codes_for k volume s xs
unpacked k volume s xs few =
    let cs = codes_for k volume s xs in
    ap (codes_from k (packed k cs) 0) (sym (length-codes-for k volume s xs))
    ∙ codes-back k (packed k cs) cs 0
    (λ j h. sym (code-at k (bits_of k) refl (packed k cs) (0 + j) ((0 + j) * bits_of k) (early k j (omega (arith, length-codes-for k volume s xs))) refl)
    ∙ ap (field (packed k cs) ((0 + j) * bits_of k)) (uncut k)
    ∙ ap₂ (λ (n i : ℕ). n / 2 ^ (i * bits_of k) % 2 ^ bits_of k) (packed-number k volume s xs few) (N.zero-add j)
    ∙ number_at (bits_of k) cs (all_codes k volume s xs) j)

-- ---- the values
heard : (k : Variant) (volume : ℕ) (s : State) (xs : List ℤ) → sounds 3 k volume s (codes_for k volume s xs) ≡ values_for k volume s xs
unfolding sounds codes_for values_for
heard k volume s [] = refl
heard k volume s (x ∷ xs) = ap (λ (l : List ℤ). value_at k volume s (code_for k volume s x) ∷ l) (heard k volume (decode_code 3 k s (code_for k volume s x)) xs)

-- of a fragment, whatever the one before it ended in
fragment-heard : (k : Variant) (volume index : ℕ) (s : State) (xs : List ℤ) → index ≤ 88 → length xs ≤ fragment_samples → samples_of 3 k s (fragment_for k volume index xs) (length xs) ≡ values_for k volume (start_of index) xs
unfolding samples_of fragment_for
fragment-heard k volume index s xs low few = ap (sounds 3 k volume (start_of index)) (unpacked k volume (start_of index) xs few) ∙ heard k volume (start_of index) xs

module _ (xs : List ℤ) (k : Variant) (rate volume index : ℕ) (t : InTerms (length xs) rate volume index) where
  abbrev file : List ℕ
  file = file_of xs k rate volume index

  abbrev header : Header
  header = header_for k rate (length xs)

  piece-heard : (s : State) (p : ℕ) → p < fragment_count (length xs) → samples_from file header 0 s p ≡ values_for k volume (start_of index) (samples_at xs p)
  unfolding samples_from
  piece-heard s p h =
      ap (λ (q : ℕ). samples_of 3 k s (fragment_at file header q) (frame_length header p)) (N.add-zero (p * 1) ∙ N.mul-one p)
      ∙ ap₂ (samples_of 3 k s) (fragment-is xs k rate volume index p h) (sym (length-samples-at xs p))
      ∙ fragment-heard k volume index s (samples_at xs p) t.low (omega (arith, length-samples-at xs p))

  pieces-heard : (m : ℕ) → m ≤ fragment_count (length xs) → pieces (samples_from file header 0) (state_from file header 0) m ≡ pieces_of (λ p. values_for k volume (start_of index) (samples_at xs p)) m
  unfolding pieces_of
  pieces-heard zero h = refl
  pieces-heard (suc m) h =
      ap₂ (λ (a b : List ℤ). a ++ b) (pieces-heard m (omega arith)) (piece-heard (state_after (samples_from file header 0) (state_from file header 0) m) m h)

  pub decodes : whole_of file header ≡ chosen_for xs k volume index
  unfolding whole_of channel_whole chosen_for
  decodes = pieces-heard (fragment_count (length xs)) (N.le_refl (fragment_count (length xs)))

  -- what `decode` leaves in a buffer
  pub decoded : rate < 2 ^ 32 → (out : List ℤ) → decoded_into out file (inspected file) ≡ sets out 0 (chosen_for xs k volume index)
  decoded wide out = ap (decoded_into out file) (passes xs k rate volume index t wide) ∙ ap (sets out 0) decodes

-- a code: none is nearer, and a smaller one is farther
pub chosen-nearest : (k : Variant) (volume : ℕ) (s : State) (x : ℤ) → IsNearest (distance_of k volume s x) (last_code k) (code_for k volume s x)
unfolding code_for
chosen-nearest k volume s x = nearest (distance_of k volume s x) (last_code k)
