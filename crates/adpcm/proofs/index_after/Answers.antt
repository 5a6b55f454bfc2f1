use Rattle.std.proofs.Common.{◌≡◌, refl, min, pos, ◌+ℤ◌, arith, w32, SFits, to_z, of_z}
use mir.Facts.{to_z_pos}
use Rattle.num.proofs.Integers.{back}
use Rattle.num.proofs.Fit.{fit-abs, abs-add, clamp-is}
use Rattle.adpcm.specs.Ima.{index_after}
use Rattle.adpcm.proofs.index_after.Goals.{After-min}
use Rattle.adpcm.proofs.index_after.Goals as goal

fits : (c : After-min) → SFits w32 (pos (min c.args.index 88) +ℤ c.args.adjust)
fits c =
    fit-abs w32 _ 96 (omega (arith, abs-add (pos (min c.args.index 88)) c.args.adjust, c.requires))
    (omega arith)

-- what the local holds
is : (c : After-min) → to_z w32 (of_z w32 (to_z w32 c.min.result +ℤ to_z w32 (of_z w32 c.args.adjust))) ≡ (pos (min c.args.index 88) +ℤ c.args.adjust)
is c = rw (to_z_pos w32 {n = c.min.result} (omega (arith, c.min.ensures)), back w32 _ c.ranges.adjust, c.min.ensures) (back w32 _ (fits c))

pub returns : goal.returns
unfolding index_after
returns c = rw (back w32 _ (record { sfits = c.clamp.type_inv }), c.clamp.ensures.value, is c.before, clamp-is (pos (min c.args.index 88) +ℤ c.args.adjust) (pos 0) (pos 88) refl)
