-- What is stored and what is to come, turn by turn: the codes of samples. Assumes nothing.
use mathlib.Core.Path.{◌≡◌}
use mathlib.Core.List.{List}
use Prim.Native.Nat.{ℕ, ◌+◌, ◌≤◌, ◌<◌}
use native.Mathlib.Numerals.{add-one}
use lib.IntN.{ℤ, pos}
use lib.ListN.{length, get_or, set, drop, drop_of_length-le}
use lib.Seq.{sets, drop-cons}
use Rattle.adpcm.specs.declared.Variant.{Variant}
use Rattle.adpcm.specs.declared.State.{State}
use Rattle.adpcm.specs.Codes.{decode_code}
use Rattle.sqv4_writer.specs.Choice.{code_for, codes_for}

module _ (k : Variant) (volume : ℕ) (xs : List ℤ) (codes : List ℕ) (s : State) (i : ℕ) where
  -- a code, and the state that goes on with it
  pub code-stored : (code : ℕ) (next : State) → i < length xs → code ≡ code_for k volume s (get_or xs i (pos 0)) → next ≡ decode_code 3 k s code → sets (set codes i code) (i + 1) (codes_for k volume next (drop (i + 1) xs)) ≡ sets codes i (codes_for k volume s (drop i xs))
  unfolding codes_for
  code-stored code next h e f = rw (add-one i, drop-cons xs i (pos 0) h, f, e)

  pub codes-done : length xs ≤ i → codes ≡ sets codes i (codes_for k volume s (drop i xs))
  unfolding codes_for
  codes-done h = rw (drop_of_length-le xs h)
