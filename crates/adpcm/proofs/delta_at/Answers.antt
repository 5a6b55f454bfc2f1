use Rattle.std.proofs.Common.{◌≡◌, ℕ, ◌/◌, ◌%◌, ◌==◌, ◌∙◌, inl, inr, to_z-of_z}
use mathlib.Core.Logic.{◌⊎◌}
use borrow.Author.Rules.{sfits_of}
use lib.Bits.{and_mask}
use Rattle.num.specs.Integers.{signed}
use Rattle.adpcm.specs.declared.Variant.{Variant}
use Rattle.adpcm.specs.declared.Variant.TheVariants.{L, LPlus}
use Rattle.adpcm.specs.Codes.{delta_at, level_difference, levels_of}
use Rattle.adpcm.proofs.delta_at.Goals as goal

-- L and L+ differ in their levels alone
of-levels : (version : ℕ) (k : Variant) (step code : ℕ) → (k ≡ L) ⊎ (k ≡ LPlus)
    → signed (code / 4 % 2 == 1) (level_difference (levels_of version k) step code) ≡ delta_at version k step code
unfolding delta_at
of-levels version k step code (inl e) = rw e
of-levels version k step code (inr e) = rw e

pub returns-in-H : goal.returns-in-H
unfolding delta_at
returns-in-H c = rw (to_z-of_z (sfits_of c.with_sign.type_inv), c.in-H.is) (rw (c.difference.ensures, and_mask (c.args.code / 8) 1) at c.with_sign.ensures.result, c.with_sign.ensures.result_bound)

pub returns-in-L : goal.returns-in-L
returns-in-L c =
    let a = c.args in
    rw (to_z-of_z (sfits_of c.with_sign-in-L.type_inv))
    ((rw (c.level_difference.ensures, and_mask (a.code / 4) 1) at c.with_sign-in-L.ensures.result) ∙ of-levels a.version a.variant a.step a.code c.in-L.is, c.with_sign-in-L.ensures.result_bound)
