-- Parts of lists.
use Rattle.std.specs.Prelude.{List, ℕ, take, drop}

-- n elements from a on, as far as there are any
abbrev pub part : {A : Type 0} → List A → ℕ → ℕ → List A
part l a n = take n (drop a l)
