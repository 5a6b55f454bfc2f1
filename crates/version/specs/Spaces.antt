-- White space of UTF-8 text, and a text without the white space at its ends.
use Rattle.std.specs.Prelude.{Bool, true, false, cond, List, [], ◌∷◌, ℕ, zero, suc, ◌+◌, ◌*◌, ◌-◌, ◌/◌, ◌%◌, eqb, ltb, length, take, drop, get_or}

-- ---- characters

-- the bytes of a character below 65,536 as one number, the first byte the highest
abbrev pub utf8 : ℕ → ℕ
utf8 c =
    cond (ltb c 128) c
    (cond (ltb c 2048) ((192 + c / 64) * 256 + (128 + c % 64))
    ((224 + c / 4096) * 65536 + (128 + c / 64 % 64) * 256 + (128 + c % 64)))

abbrev pub utf8s : List ℕ → List ℕ
utf8s [] = []
utf8s (c ∷ cs) = utf8 c ∷ utf8s cs

-- the code points that Unicode calls White_Space, by the count of their bytes
abbrev pub one_byte : List ℕ
one_byte = utf8s (9 ∷ (10 ∷ (11 ∷ (12 ∷ (13 ∷ (32 ∷ []))))))

abbrev pub two_bytes : List ℕ
two_bytes = utf8s (133 ∷ (160 ∷ []))

abbrev pub three_bytes : List ℕ
three_bytes =
    utf8s
    (5760 ∷ (8192 ∷ (8193 ∷ (8194 ∷ (8195 ∷ (8196 ∷ (8197 ∷ (8198 ∷ (8199 ∷ (8200 ∷ (8201 ∷ (8202 ∷ (8232 ∷ (8233 ∷ (8239 ∷ (8287 ∷ (12288 ∷ [])))))))))))))))))

unfoldable pub among : ℕ → List ℕ → Bool
among n [] = false
among n (x ∷ xs) = cond (eqb x n) true (among n xs)

-- ---- white space at a place

-- how many bytes it has, by the numbers that one, two and three bytes make: 0 where there is none
unfoldable pub space_width : ℕ → ℕ → ℕ → ℕ
space_width one two three =
    cond (among one one_byte) 1 (cond (among two two_bytes) 2 (cond (among three three_bytes) 3 0))

-- the number that one, two or three bytes from a place on make, 0 past the end
abbrev pub one_byte_at : List ℕ → ℕ → ℕ
one_byte_at s at = get_or s at 0

abbrev pub two_bytes_at : List ℕ → ℕ → ℕ
two_bytes_at s at = one_byte_at s at * 256 + get_or s (at + 1) 0

abbrev pub three_bytes_at : List ℕ → ℕ → ℕ
three_bytes_at s at = two_bytes_at s at * 256 + get_or s (at + 2) 0

-- the bytes of the white space that a text begins with, and of that which it ends with
unfoldable pub leading : List ℕ → ℕ
leading s = space_width (one_byte_at s 0) (two_bytes_at s 0) (three_bytes_at s 0)

unfoldable pub trailing : List ℕ → ℕ
trailing s = space_width (one_byte_at s (length s - 1)) (two_bytes_at s (length s - 2)) (three_bytes_at s (length s - 3))

-- ---- a text without it, in at most n steps

unfoldable pub trim_start_in : ℕ → List ℕ → List ℕ
trim_start_in zero s = s
trim_start_in (suc n) s = cond (eqb (leading s) 0) s (trim_start_in n (drop (leading s) s))

unfoldable pub trim_end_in : ℕ → List ℕ → List ℕ
trim_end_in zero s = s
trim_end_in (suc n) s = cond (eqb (trailing s) 0) s (trim_end_in n (take (length s - trailing s) s))

abbrev pub trim_start : List ℕ → List ℕ
trim_start s = trim_start_in (length s) s

abbrev pub trim_end : List ℕ → List ℕ
trim_end s = trim_end_in (length s) s
