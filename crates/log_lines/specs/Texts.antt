-- What a log prints, line by line, and the largest frame values: frames are printed clamped, a peak counts them ahead of the clamp.
use Rattle.std.specs.Prelude.{List, [], ◌∷◌, ◌++◌, ℕ, zero, suc, max, ℤ, pos, nat_abs, get_or}
use Rattle.num.specs.Integers.{clamp16}
use Rattle.decimal.specs.Written.{decimal, render}

-- a number behind a comma
unfoldable pub comma_field : ℤ → List ℕ
comma_field z = 44 ∷ render z

-- two numbers behind a word, and byte 10
unfoldable pub pair_line : List ℕ → ℤ → ℤ → List ℕ
pair_line word a b = word ++ (comma_field a ++ (comma_field b ++ (10 ∷ [])))

-- `F`, left, right, each clamped
abbrev pub frame_line : ℤ → ℤ → List ℕ
frame_line left right = pair_line (70 ∷ []) (clamp16 left) (clamp16 right)

-- the lines of the first n frames
unfoldable pub frame_lines : List ℤ → List ℤ → ℕ → List ℕ
frame_lines left right zero = []
frame_lines left right (suc n) = frame_lines left right n ++ frame_line (get_or left n (pos 0)) (get_or right n (pos 0))

-- `R` (82) or `P` (80), address, byte
abbrev pub read_back_line : ℕ → ℕ → ℕ → List ℕ
read_back_line kind address byte = pair_line (kind ∷ []) (pos address) (pos byte)

-- `bad`, which line it is, and the number of why
unfoldable pub bad_line : ℕ → ℕ → List ℕ
bad_line line why = (98 ∷ 97 ∷ 100 ∷ 44 ∷ []) ++ (decimal line ++ (44 ∷ (decimal why ++ (10 ∷ []))))

-- `peak`, left, right
abbrev pub peak_line : ℕ → ℕ → List ℕ
peak_line left right = pair_line (112 ∷ 101 ∷ 97 ∷ 107 ∷ []) (pos left) (pos right)

-- the largest of a number and the sizes of the first n values of a side
unfoldable pub peak_of : ℕ → List ℤ → ℕ → ℕ
peak_of before side zero = before
peak_of before side (suc n) = max (peak_of before side n) (nat_abs (get_or side n (pos 0)))
