-- Fragments one after the other: their lengths, one fragment more, and the samples of each. Assumes nothing.
use mathlib.Core.Path.{◌≡◌, refl, sym, ap, ◌∙◌}
use mathlib.Core.List.{List, [], ◌∷◌, ◌++◌, append-nil}
use native.Mathlib.Decide.{dec_le}
use lib.Seq.{drop-drop, drop_at, take_all, take-append-le}
use lib.ListN.{drop_of_length-le, length-append}
use Rattle.output.specs.declared.Output.{Output}
use Rattle.output.specs.Output.{Put, Puts}
use Rattle.output.proofs.Writing.{puts-append, put-none}
use Prim.Native.Nat.{ℕ, zero, suc, ◌+◌, ◌*◌, ◌^◌, ◌<◌, ◌≤◌, min}
use native.Mathlib.Nat as N
use native.Mathlib.Numerals.{add-one}
use native.Mathlib.Omega.{arith}
use lib.IntN.{ℤ}
use lib.ListN.{length, take, drop}
use Rattle.adpcm.specs.declared.Variant.{Variant}
use Rattle.adpcm.specs.Codes.{fragment_size, payload_bytes}
use Rattle.sqv4_writer.specs.Packing.{bytes_of}
use Rattle.sqv4_writer.specs.Streams.{header_size, fragment_count, max_samples, pieces_of, samples_at, fragment_for, header_bytes}

pub length-bytes : (m n : ℕ) → length (bytes_of m n) ≡ m
unfolding bytes_of
length-bytes zero n = refl
length-bytes (suc m) n = ap suc (length-bytes m _)

pub length-fragment : (k : Variant) (volume index : ℕ) (xs : List ℤ) → length (fragment_for k volume index xs) ≡ fragment_size k
unfolding fragment_for
length-fragment k volume index xs = ap (λ (n : ℕ). suc (suc n)) (length-bytes (payload_bytes k) _) ∙ sym (N.add_comm 2 (payload_bytes k) ∙ omega arith)

pub count_small : (n : ℕ) → n ≤ max_samples → fragment_count n < 2 ^ 32
count_small n h = omega arith

-- no fragments yet
pub none-put : (f : ℕ → List ℕ) (l : List ℕ) (at : ℕ) → at ≤ length l → Put l l at (pieces_of f 0) at
unfolding pieces_of
none-put f l at h = put-none l at at (omega arith)

-- one fragment more
pub one-put : (f : ℕ → List ℕ) (s t u : Output) (p : ℕ) → Puts s t (pieces_of f p) → Puts t u (f p) → Puts s u (pieces_of f (p + 1))
unfolding pieces_of
one-put f s t u p h g = rw (add-one p) (puts-append s t u (pieces_of f p) (f p) h g)

-- its samples, and what is left behind them
module _ (xs rest chunk after : List ℤ) (p : ℕ) (e : rest ≡ drop (p * 63) xs) (f : rest ≡ chunk ++ after) (h : length chunk ≡ min 63 (length rest)) where
  short : (63 ≤ length chunk → ⊥) → after ≡ []
  short n = empty after (omega (arith, ap length f, length-append chunk after))
    where
      empty : (l : List ℤ) → length l ≡ 0 → l ≡ []
      empty [] z = refl
      empty (x ∷ l) z = absurd (omega arith)

  pub chunk-is : chunk ≡ samples_at xs p
  chunk-is = sym (go (dec_le 63 (length chunk))) ∙ ap (take 63) (sym f ∙ e)
    where
      go : Dec (63 ≤ length chunk) → take 63 (chunk ++ after) ≡ chunk
      go (yes n) = take-append-le 63 chunk after n ∙ take_all 63 chunk (omega arith)
      go (no n) = rw (short n, append-nil chunk) (take_all 63 chunk (omega arith))

  pub chunks-left : after ≡ drop ((p + 1) * 63) xs
  chunks-left = sym (go (dec_le 63 (length chunk))) ∙ ap (drop 63) (sym f ∙ e) ∙ drop-drop 63 (p * 63) xs ∙ ap (λ (k : ℕ). drop k xs) (omega arith)
    where
      go : Dec (63 ≤ length chunk) → drop 63 (chunk ++ after) ≡ after
      go (yes n) = drop_at chunk after 63 (omega arith)
      go (no n) = rw (short n, append-nil chunk) (let s : length chunk ≤ 63 = omega arith in drop_of_length-le chunk s)

-- ---- behind a header
pub length-header : (k : Variant) (rate n : ℕ) → length (header_bytes k rate n) ≡ header_size
unfolding header_bytes bytes_of
length-header k rate n = refl
