-- The code that the writer takes for a sample: the one whose value after volume is nearest, the smaller on a tie.
use Rattle.std.specs.Prelude.{cond, List, [], ◌∷◌, ℕ, zero, suc, ◌-◌, ◌^◌, ltb, ℤ, nat_abs, ◌-ℤ◌}
use Rattle.adpcm.specs.declared.Variant.{Variant}
use Rattle.adpcm.specs.declared.State.{State}
use Rattle.adpcm.specs.Codes.{bits_of, decode_code, applied_volume}

-- of the numbers from 0 to n the one at the least distance, the smaller on a tie
unfoldable pub nearest_of : (ℕ → ℕ) → ℕ → ℕ
nearest_of distance zero = 0
nearest_of distance (suc n) = cond (ltb (distance (suc n)) (distance (nearest_of distance n))) (suc n) (nearest_of distance n)

-- a variant's largest code
abbrev pub last_code : Variant → ℕ
last_code k = 2 ^ bits_of k - 1

module _ (k : Variant) (volume : ℕ) where
  -- what a code gives in a state, after volume
  abbrev pub value_at : State → ℕ → ℤ
  value_at s code = applied_volume (decode_code 3 k s code).predictor volume

  -- and how far that is from a sample
  unfoldable pub distance_of : State → ℤ → ℕ → ℕ
  distance_of s x code = nat_abs (value_at s code -ℤ x)

  unfoldable pub code_for : State → ℤ → ℕ
  code_for s x = nearest_of (distance_of s x) (last_code k)

  -- the codes of samples in a row; the state goes on with each
  unfoldable pub codes_for : State → List ℤ → List ℕ
  codes_for s [] = []
  codes_for s (x ∷ xs) = code_for s x ∷ codes_for (decode_code 3 k s (code_for s x)) xs

  -- the values that were chosen with them
  unfoldable pub values_for : State → List ℤ → List ℤ
  values_for s [] = []
  values_for s (x ∷ xs) = value_at s (code_for s x) ∷ values_for (decode_code 3 k s (code_for s x)) xs
