use Rattle.std.proofs.Common.{◌*◌, ◌≤◌, pos, ◌*ℤ◌, nat_abs, sym, arith, w16, w32, SFits}
use mir.Facts.{to_z_pos}
use lib.Signed.{quot_z}
use Rattle.num.proofs.Integers.{back}
use Rattle.num.proofs.Fit.{widen16-32, abs-fit, fit-abs, mul_small, abs-quot}
use Rattle.tone.specs.Mix.{volume_of}
use Rattle.tone.proofs.Scaled.{gain-once}
use Rattle.tone.proofs.mix.gained.Goals as goal

product-abs : (c : goal.Start) → nat_abs (c.args.q8 *ℤ pos c.args.volume) ≤ 32768 * 255
product-abs c = mul_small c.args.q8 (pos c.args.volume) 32768 255 (abs-fit w16 c.ranges.q8) (omega arith)

product : (c : goal.Start) → SFits w32 (c.args.q8 *ℤ pos c.args.volume)
product c = fit-abs w32 _ (32768 * 255) (product-abs c) (omega arith)

quotient : (c : goal.Start) → SFits w16 (quot_z (c.args.q8 *ℤ pos c.args.volume) (pos 8192))
quotient c = fit-abs w16 _ 1020 (rw abs-quot (omega (arith, product-abs c))) (omega arith)

pub returns : goal.returns
unfolding volume_of
returns c = rw (back w16 _ c.ranges.q8, back w32 _ (widen16-32 c.ranges.q8), to_z_pos w32 {n = c.args.volume} (omega arith), back w32 _ (product c), back w32 _ (widen16-32 (quotient c)), back w16 _ (quotient c)) (sym (gain-once (c.args.q8 *ℤ pos c.args.volume) 1024))
