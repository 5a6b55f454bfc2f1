-- Why a state is not read, as it is printed.
use Rattle.std.specs.Prelude.{List, [], ◌∷◌, ◌++◌, ℕ}
use Rattle.decimal.specs.Written.{decimal, each}

-- a number behind a comma
abbrev pub number_text : ℕ → List ℕ
number_text n = 44 ∷ decimal n

-- `bad` and the numbers; nothing where there are none
unfoldable pub refusal_line : List ℕ → List ℕ
refusal_line [] = []
refusal_line (n ∷ ns) = (98 ∷ 97 ∷ 100 ∷ []) ++ (each number_text (n ∷ ns) ++ (10 ∷ []))
