-- Whole numbers with a sign: two parts, of which one is 0; clamps.
use Rattle.std.specs.Prelude.{Bool, cond, ℕ, suc, ℤ, pos, negsuc, neg_ℤ}
use Rattle.std.specs.Int.Signed.{lt_z}

-- z is up z - down z
abbrev pub up : ℤ → ℕ
up (pos n) = n
up (negsuc n) = 0

abbrev pub down : ℤ → ℕ
down (pos n) = 0
down (negsuc n) = suc n

-- a size with a sign
abbrev pub signed : Bool → ℕ → ℤ
signed negative n = cond negative (neg_ℤ (pos n)) (pos n)

-- the nearest number between two bounds
abbrev pub clamp : ℤ → ℤ → ℤ → ℤ
clamp z low high = cond (lt_z z low) low (cond (lt_z high z) high z)

-- the nearest number of 16 bits
abbrev pub clamp16 : ℤ → ℤ
clamp16 z = clamp z (negsuc 32767) (pos 32767)
