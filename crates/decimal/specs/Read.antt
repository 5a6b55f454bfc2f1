-- Numbers read in decimal.
use Rattle.std.specs.Prelude.{Bool, false, cond, List, [], ◌∷◌, ℕ, zero, suc, ◌+◌, ◌-◌, ◌*◌, ◌^◌, leb, ltb, eqb, pos, negsuc, length, get_or, drop, ℤ, Option, Some, None}

-- what reading a numeral finds: its value and the place behind it
abbrev pub Numeral : Type 0 → Type 0
Numeral A = Option (A × ℕ)

abbrev pub digit : ℕ → Bool
digit c = cond (leb 48 c) (leb c 57) false

-- a digit stands at i
unfoldable pub digit_at : List ℕ → ℕ → Bool
digit_at text i = digit (get_or text i 0)

-- the digits with which a text begins
abbrev pub digits_of : List ℕ → List ℕ
digits_of [] = []
digits_of (c ∷ cs) = cond (digit c) (c ∷ digits_of cs) []

-- the number of which v is what stands before the digits
abbrev pub spelled : ℕ → List ℕ → ℕ
spelled v [] = v
spelled v (c ∷ cs) = spelled (v * 10 + (c - 48)) cs

-- the number that digits spell, of which a 0 stands before no other
abbrev pub natural : List ℕ → Option ℕ
natural [] = None
natural (c ∷ []) = Some (c - 48)
natural (c ∷ d ∷ cs) = cond (eqb c 48) None (Some (spelled 0 (c ∷ d ∷ cs)))

-- a number below 2^64
abbrev pub bounded : Option ℕ → ℕ → Numeral ℕ
bounded None next = None
bounded (Some n) next = cond (ltb n (2 ^ 64)) (Some (n, next)) None

-- v with the digits at i behind it
unfoldable pub spelled_at : ℕ → List ℕ → ℕ → Numeral ℕ
spelled_at v text i = bounded (Some (spelled v (digits_of (drop i text)))) (i + length (digits_of (drop i text)))

-- the numeral that the digits at i are
unfoldable pub natural_at : List ℕ → ℕ → Numeral ℕ
natural_at text i = bounded (natural (digits_of (drop i text))) (i + length (digits_of (drop i text)))

-- what a numeral is with a minus sign before it: no number if it is 0 or above 2^63
abbrev pub negative : Numeral ℕ → Numeral ℤ
negative None = None
negative (Some (zero, next)) = None
negative (Some (suc n, next)) = cond (ltb n (2 ^ 63)) (Some (negsuc n, next)) None

-- and with none: no number from 2^63 on
abbrev pub positive : Numeral ℕ → Numeral ℤ
positive None = None
positive (Some (n, next)) = cond (ltb n (2 ^ 63)) (Some (pos n, next)) None

-- the number whose numeral stands at i
unfoldable pub number_at : List ℕ → ℕ → Numeral ℤ
number_at text i = cond (eqb (get_or text i 0) 45) (negative (natural_at text (i + 1))) (positive (natural_at text i))
