-- Where a comma stands. Assumes nothing.
use mathlib.Core.Path.{◌≡◌, sym, ◌∙◌}
use mathlib.Core.List.{List}
use Prim.Native.Nat.{ℕ, ◌<◌}
use native.Mathlib.Omega.{arith}
use native.Mathlib.Decide.{dec_le}
use lib.ListN.{length, get_or, get_or-eq_default}

-- a comma lies in the text
pub comma-inside : (text : List ℕ) (i : ℕ) → get_or text i 0 ≡ 44 → i < length text
comma-inside text i e =
    elim (dec_le (length text) i) [
      | yes h ↦ absurd (none (sym (get_or-eq_default text 0 h) ∙ e))
      | no h ↦ omega arith
    ]
  where
    none : ◌≡◌ {A = ℕ} 0 44 → ⊥
    none q = omega arith
