-- What is on and then is off, and sets of numbers as bits.
use Rattle.std.specs.Prelude.{Bool, true, false, cond, ℕ, zero, suc, ◌+◌, ◌*◌, ◌^◌}

-- whether something that was on is so no more
abbrev pub off : Bool → Bool → Bool
off was is = cond was (cond is false true) false

abbrev pub either : Bool → Bool → Bool
either a b = cond a true b

abbrev pub bit_of : Bool → ℕ
bit_of b = cond b 1 0

-- the numbers n below a width with f n, as a number: bit n is set where n is in the set
unfoldable pub set_of : ℕ → (ℕ → Bool) → ℕ
set_of zero f = 0
set_of (suc w) f = set_of w f + bit_of (f w) * 2 ^ w
