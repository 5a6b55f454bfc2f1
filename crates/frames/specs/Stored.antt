-- Bytes stored in the RAM, one after the other, whatever the voices.
use Rattle.std.specs.Prelude.{ℕ, zero, suc, ◌+◌, List, slice_index, slice_set}

-- those of m calls of a list, from call `from` on
unfoldable pub calls_stored : List ℕ → List ℕ → ℕ → ℕ → List ℕ → List ℕ
calls_stored addresses values from zero ram = ram
calls_stored addresses values from (suc m) ram = slice_set (calls_stored addresses values from m ram) (slice_index addresses (from + m)) (slice_index values (from + m))
