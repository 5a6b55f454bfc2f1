-- Numbers written in decimal.
use Rattle.std.specs.Prelude.{cond, List, [], ◌∷◌, ◌++◌, ℕ, zero, suc, ◌+◌, ◌/◌, ◌%◌, ltb, ℤ, pos, negsuc}

-- the digits of n, the most significant first, in at most as many turns as the first argument says
unfoldable pub digits_in : ℕ → ℕ → List ℕ
digits_in zero n = []
digits_in (suc turns) n = cond (ltb n 10) ((48 + n) ∷ []) (digits_in turns (n / 10) ++ ((48 + n % 10) ∷ []))

-- the numeral of a natural number; n + 1 turns are more than enough
unfoldable pub decimal : ℕ → List ℕ
decimal n = digits_in (suc n) n

-- the numeral of an integer
unfoldable pub render : ℤ → List ℕ
render (pos n) = decimal n
render (negsuc n) = 45 ∷ decimal (suc n)

-- the texts of a list's elements, one behind the other
abbrev pub each : {A : Type 0} → (A → List ℕ) → List A → List ℕ
each f [] = []
each f (x ∷ xs) = f x ++ each f xs
