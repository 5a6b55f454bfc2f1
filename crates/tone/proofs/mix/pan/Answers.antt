use Rattle.std.proofs.Common.{◌*◌, ◌≤◌, pos, ◌*ℤ◌, nat_abs, refl, arith, w16, w32, w64, SFits}
use mir.Facts.{to_z_pos}
use lib.Signed.{quot_z}
use Rattle.num.proofs.Integers.{back}
use Rattle.num.proofs.Fit.{widen16-64, widen32-64, abs-fit, fit-abs, mul_small, abs-quot}
use Rattle.tone.specs.Mix.{pan}
use Rattle.tone.proofs.Sides.{pan-small}
use Rattle.tone.proofs.Fifteenths.{fifteenths}
use Rattle.tone.proofs.mix.pan.Goals as goal

factor : (c : goal.Start) → SFits w64 (pos (c.args.weight * 8947849))
factor c = fit-abs w64 _ 2281701495 (omega arith) (omega arith)

product-abs : (c : goal.Start) → nat_abs (c.args.sample *ℤ pos (c.args.weight * 8947849)) ≤ 32768 * 2281701495
product-abs c = mul_small c.args.sample (pos (c.args.weight * 8947849)) 32768 2281701495 (abs-fit w16 c.ranges.sample) (omega arith)

product : (c : goal.Start) → SFits w64 (c.args.sample *ℤ pos (c.args.weight * 8947849))
product c = fit-abs w64 _ (32768 * 2281701495) (product-abs c) (omega arith)

quotient : (c : goal.Start) → SFits w32 (quot_z (c.args.sample *ℤ pos (c.args.weight * 8947849)) (pos 134217728))
quotient c = fit-abs w32 _ 557057 (rw abs-quot (omega (arith, product-abs c))) (omega arith)

pub returns-clause-result : goal.returns-clause-result
unfolding pan
returns-clause-result c =
    rw (back w16 _ c.ranges.sample, back w64 _ (widen16-64 c.ranges.sample), to_z_pos w64 {n = c.args.weight} (omega arith), back w64 _ (factor c), back w64 _ (product c), back w64 _ (widen32-64 (quotient c)), back w32 _ (quotient c), fifteenths c.args.sample c.args.weight (abs-fit w16 c.ranges.sample) (omega arith))
    (refl)

pub returns-clause-result_bound : goal.returns-clause-result_bound
unfolding pan
returns-clause-result_bound c =
    rw (back w16 _ c.ranges.sample, back w64 _ (widen16-64 c.ranges.sample), to_z_pos w64 {n = c.args.weight} (omega arith), back w64 _ (factor c), back w64 _ (product c), back w64 _ (widen32-64 (quotient c)), back w32 _ (quotient c), fifteenths c.args.sample c.args.weight (abs-fit w16 c.ranges.sample) (omega arith))
    (λ h. pan-small c.args.sample c.args.weight h)
