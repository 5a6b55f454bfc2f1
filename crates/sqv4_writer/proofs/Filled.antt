-- A fragment's codes with zeros behind them, up to 64; the bytes of a fragment. Assumes nothing.
use mathlib.Core.Path.{◌≡◌, refl, ap, ap₂, ◌∙◌}
use mathlib.Core.List.{List, [], ◌∷◌, ◌++◌}
use Prim.Native.Nat.{ℕ, zero, suc, ◌+◌, ◌*◌, ◌^◌, ◌<◌, ◌≤◌}
use native.Mathlib.Omega.{arith}
use lib.IntN.{ℤ}
use lib.ListN.{length, get_or, set, take, drop, replicate, length-replicate}
use lib.Seq.{sets, sets-eq, take-append-le, take_all}
use lib.Pow.{pow_pos, lt_of_le_ones}
use Rattle.num.proofs.Lists.{each_set}
use Rattle.adpcm.specs.declared.Variant.{Variant}
use Rattle.adpcm.specs.declared.Variant.TheVariants.{H, L, LPlus}
use Rattle.adpcm.specs.declared.State.{State}
use Rattle.adpcm.specs.Codes.{bits_of, payload_bytes, decode_code}
use Rattle.sqv4.specs.Decoding.{start_of}
use Rattle.sqv4_writer.specs.Choice.{last_code, distance_of, code_for, codes_for}
use Rattle.sqv4_writer.specs.Packing.{codes_number, bytes_of, packed}
use Rattle.sqv4_writer.proofs.Nearest.{nearest}
use Rattle.sqv4_writer.proofs.Series.{length-bytes}

-- ---- codes
module _ (k : Variant) (volume : ℕ) where
  pub length-codes-for : (s : State) (xs : List ℤ) → length (codes_for k volume s xs) ≡ length xs
  unfolding codes_for
  length-codes-for s [] = refl
  length-codes-for s (x ∷ xs) = ap suc (length-codes-for (decode_code 3 k s (code_for k volume s x)) xs)

  pub code-small : (s : State) (x : ℤ) → code_for k volume s x < 2 ^ bits_of k
  unfolding code_for
  code-small s x = lt_of_le_ones (bits_of k) (nearest (distance_of k volume s x) (last_code k)).there

  pub codes-small : (s : State) (xs : List ℤ) (i : ℕ) → get_or (codes_for k volume s xs) i 0 < 2 ^ bits_of k
  unfolding codes_for
  codes-small s [] i = pow_pos (bits_of k)
  codes-small s (x ∷ xs) zero = code-small s x
  codes-small s (x ∷ xs) (suc i) = codes-small (decode_code 3 k s (code_for k volume s x)) xs i

-- ---- zeros behind codes are nothing
zeros : (w m n : ℕ) → codes_number w (drop n (replicate m 0)) ≡ 0
unfolding codes_number
zeros w zero zero = refl
zeros w zero (suc n) = refl
zeros w (suc m) zero = ap (λ (j : ℕ). j * 2 ^ w + 0) (zeros w m zero) ∙ none (2 ^ w)
  where
    none : (j : ℕ) → 0 * j + 0 ≡ 0
    none j = omega arith
zeros w (suc m) (suc n) = zeros w m n

zeros-behind : (w : ℕ) (cs zs : List ℕ) → codes_number w zs ≡ 0 → codes_number w (cs ++ zs) ≡ codes_number w cs
unfolding codes_number
zeros-behind w [] zs e = e
zeros-behind w (c ∷ cs) zs e = ap (λ (j : ℕ). j * 2 ^ w + c) (zeros-behind w cs zs e)

each-sets : (P : ℕ → Type 0) (xs : List ℕ) → ((i : ℕ) → P (get_or xs i 0)) → (l : List ℕ) → ((i : ℕ) → P (get_or l i 0)) → (at i : ℕ) → P (get_or (sets l at xs) i 0)
each-sets P [] h l g at i = g i
each-sets P (x ∷ xs) h l g at i = each-sets P xs (λ j. h (suc j)) (set l at x) (each_set P 0 x (h 0) l g at) (suc at) i

module _ (k : Variant) (volume : ℕ) (s : State) (xs : List ℤ) (few : length xs ≤ 63) where
  -- the array of codes
  abbrev pub array : List ℕ
  array = sets (replicate 64 0) 0 (codes_for k volume s xs)

  pub array-small : (i : ℕ) → get_or array i 0 < 2 ^ bits_of k
  array-small = each-sets (λ c. c < 2 ^ bits_of k) (codes_for k volume s xs) (codes-small k volume s xs) (replicate 64 0) (zero-small 64) 0
    where
      zero-small : (m i : ℕ) → get_or (replicate m 0) i 0 < 2 ^ bits_of k
      zero-small zero i = pow_pos (bits_of k)
      zero-small (suc m) zero = pow_pos (bits_of k)
      zero-small (suc m) (suc i) = zero-small m i

  pub array-number : (w : ℕ) → codes_number w array ≡ codes_number w (codes_for k volume s xs)
  array-number w =
      ap (codes_number w) (sets-eq (codes_for k volume s xs) (replicate 64 0) 0 (omega (arith, length-codes-for k volume s xs, length-replicate {A = ℕ} 64 0)))
      ∙ zeros-behind w (codes_for k volume s xs) (drop (0 + length (codes_for k volume s xs)) (replicate 64 0)) (zeros w 64 (0 + length (codes_for k volume s xs)))

-- ---- a fragment's bytes
pub eight-codes : (k : Variant) → 8 * bits_of k ≡ payload_bytes k
eight-codes H = refl
eight-codes L = refl
eight-codes LPlus = refl

pub packed-bytes : (k : Variant) (volume index bits : ℕ) (xs : List ℤ) (codes bytes : List ℕ) → length xs ≤ 63 → bits ≡ bits_of k
    → codes ≡ sets (replicate 64 0) 0 (codes_for k volume (start_of index) xs)
    → bytes ≡ sets (replicate 32 0) 0 (bytes_of (8 * bits) (codes_number bits codes))
    → take (8 * bits) bytes ≡ packed k (codes_for k volume (start_of index) xs)
packed-bytes k volume index bits xs codes bytes few b a e =
    let cs = codes_for k volume (start_of index) xs in
    let q : bytes_of (8 * bits) (codes_number bits codes) ≡ packed k cs =
    ap₂ (λ (w : ℕ) (l : List ℕ). bytes_of (8 * w) (codes_number w l)) b a ∙ ap₂ bytes_of (eight-codes k) (array-number k volume (start_of index) xs few (bits_of k)) in
    ap₂ take (ap (λ (w : ℕ). 8 * w) b ∙ eight-codes k) (e ∙ ap (sets (replicate 32 0) 0) q) ∙ front (payload_bytes k) (packed k cs) (length-bytes (payload_bytes k) _) (most k)
  where
    most : (k : Variant) → payload_bytes k ≤ 32
    most H = omega arith
    most L = omega arith
    most LPlus = omega arith

    front : (n : ℕ) (l : List ℕ) → length l ≡ n → n ≤ 32 → take n (sets (replicate 32 0) 0 l) ≡ l
    front n l p h =
        ap (take n) (sets-eq l (replicate 32 0) 0 (omega (arith, length-replicate {A = ℕ} 32 0)))
        ∙ take-append-le n l (drop (0 + length l) (replicate 32 0)) (omega arith) ∙ take_all n l (omega arith)
