use Prim.Native.Nat.{◌≤◌, ◌<◌}
use native.Mathlib.Omega.{arith}
use Rattle.decimal.proofs.Writing.{width_small, width-more}
use Rattle.decimal.proofs.natural_width.Goals as goal

pub loop-rest-preserved : goal.loop-rest-preserved
loop-rest-preserved c =
    let h : 10 ≤ c.loop-rest.rest = omega arith in
    (omega (arith, width-more _ h), omega arith)

pub returns : goal.returns
returns c = let h : c.loop-rest.rest < 10 = omega arith in omega (arith, width_small _ h)
