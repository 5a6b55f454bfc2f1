-- Bytes as one number, the first the lowest.
use Rattle.std.specs.Prelude.{List, [], ◌∷◌, ℕ, ◌+◌, ◌*◌, ◌/◌, ◌%◌, ◌^◌}

unfoldable pub le : List ℕ → ℕ
le [] = 0
le (b ∷ bs) = b + 256 * le bs

-- the bit field of width w at bit k
abbrev pub field : List ℕ → ℕ → ℕ → ℕ
field bs k w = le bs / 2 ^ k % 2 ^ w
