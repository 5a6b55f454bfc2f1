-- Sums of 32 bits that wrap. Assumes nothing.
use Rattle.std.proofs.Common.{◌≡◌, ◌+◌, ◌-◌, ◌%◌, ◌^◌, ℤ, pos, negsuc, ◌+ℤ◌, ap, ◌∙◌, arith, w32, SFits, to_z, of_z}
use Rattle.num.specs.Integers.{up, down}
use Rattle.num.proofs.Integers.{fit-up, fit-down, back, one-zero, z-add}
use Rattle.tone.specs.Mix.{wrapped}

bits_of : (t : ℤ) → SFits w32 t → (up t + (2 ^ 32 - down t)) % 2 ^ 32 ≡ of_z w32 t
bits_of (pos n) f = omega (arith, fit-up f)
bits_of (negsuc n) f = omega (arith, fit-down f)

-- a number of 32 bits with the same low bits
pub wrapped-is : (z t : ℤ) → SFits w32 t → (up z + (2 ^ 32 - down z)) % 2 ^ 32 ≡ (up t + (2 ^ 32 - down t)) % 2 ^ 32 → wrapped z ≡ t
wrapped-is z t f e = ap (to_z w32) (e ∙ bits_of t f) ∙ back w32 t f

-- what the sum of the bits leaves
pub sum-wraps : (a b : ℤ) → SFits w32 a → SFits w32 b → (of_z w32 a + of_z w32 b) % 2 ^ 32 ≡ (up (a +ℤ b) + (2 ^ 32 - down (a +ℤ b))) % 2 ^ 32
sum-wraps a b f g =
    let e = bits_of a f in
    let d = bits_of b g in
    omega (arith, e, d, z-add a b, one-zero a, one-zero b, one-zero (a +ℤ b), fit-up f, fit-down f, fit-up g, fit-down g)
