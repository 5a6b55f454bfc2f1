use Rattle.std.proofs.Common.{◌*◌, ◌≤◌, pos, ◌*ℤ◌, nat_abs, refl, arith, w16, w32, SFits}
use mir.Facts.{to_z_pos}
use Rattle.num.proofs.Integers.{back}
use lib.Signed.{quot_z}
use Rattle.num.proofs.Fit.{widen16-32, abs-fit, fit-abs, mul_small, abs-quot}
use Rattle.tone.specs.Mix.{volume_of}
use Rattle.tone.proofs.mix.volume_of.Goals as goal

product-abs : (c : goal.Start) → nat_abs (c.args.q8 *ℤ pos c.args.volume) ≤ 32768 * 255
product-abs c = mul_small c.args.q8 (pos c.args.volume) 32768 255 (abs-fit w16 c.ranges.q8) (omega arith)

product : (c : goal.Start) → SFits w32 (c.args.q8 *ℤ pos c.args.volume)
product c = fit-abs w32 _ (32768 * 255) (product-abs c) (omega arith)

small : (c : goal.Start) → nat_abs (quot_z (c.args.q8 *ℤ pos c.args.volume) (pos 1024)) ≤ 8160
small c = rw abs-quot (omega (arith, product-abs c))

quotient : (c : goal.Start) → SFits w16 (quot_z (c.args.q8 *ℤ pos c.args.volume) (pos 1024))
quotient c = fit-abs w16 _ 8160 (small c) (omega arith)

pub returns-clause-result : goal.returns-clause-result
unfolding volume_of
returns-clause-result c = rw (back w16 _ c.ranges.q8, back w32 _ (widen16-32 c.ranges.q8), to_z_pos w32 {n = c.args.volume} (omega arith), back w32 _ (product c), back w32 _ (widen16-32 (quotient c)), back w16 _ (quotient c)) (refl)

pub returns-clause-bound : goal.returns-clause-bound
unfolding volume_of
returns-clause-bound c = rw (back w16 _ c.ranges.q8, back w32 _ (widen16-32 c.ranges.q8), to_z_pos w32 {n = c.args.volume} (omega arith), back w32 _ (product c), back w32 _ (widen16-32 (quotient c)), back w16 _ (quotient c)) (small c)
