use Rattle.std.proofs.Common.{◌≡◌, ◌+◌, ◌*◌, ◌≤◌, ℤ, pos, ◌+ℤ◌, ◌-ℤ◌, ◌*ℤ◌, nat_abs, arith, w16, w64, SFits, to_z, of_z}
use mir.Facts.{to_z_pos}
use lib.Signed.{quot_z}
use Rattle.num.proofs.Integers.{back}
use Rattle.num.proofs.Fit.{widen16-64, abs-fit, fit-abs, mul_small, abs-quot, quot_fits}
use Rattle.num.proofs.Fit.{abs-add, abs-sub}
use Rattle.tone.proofs.shape.rung.Goals as goal

-- the steps of the computation, each within its bound
abbrev scale : goal.Start → ℤ
scale c = c.args.modulator *ℤ pos c.args.param_1

abbrev original : goal.Start → ℤ
original c = pos c.args.value -ℤ pos c.args.centre

abbrev quotient : goal.Start → ℤ
quotient c = quot_z (original c *ℤ scale c) (pos 65536)

scale-abs : (c : goal.Start) → nat_abs (scale c) ≤ 32768 * 65535
scale-abs c = mul_small c.args.modulator (pos c.args.param_1) 32768 65535 (abs-fit w16 c.ranges.modulator) (omega arith)

scale-fits : (c : goal.Start) → SFits w64 (scale c)
scale-fits c = fit-abs w64 _ (32768 * 65535) (scale-abs c) (omega arith)

original-abs : (c : goal.Start) → nat_abs (original c) ≤ 131070
original-abs c = omega (arith, abs-sub (pos c.args.value) (pos c.args.centre))

original-fits : (c : goal.Start) → SFits w64 (original c)
original-fits c = fit-abs w64 _ 131070 (original-abs c) (omega arith)

product-abs : (c : goal.Start) → nat_abs (original c *ℤ scale c) ≤ 131070 * (32768 * 65535)
product-abs c = mul_small (original c) (scale c) 131070 (32768 * 65535) (original-abs c) (scale-abs c)

product-fits : (c : goal.Start) → SFits w64 (original c *ℤ scale c)
product-fits c = fit-abs w64 _ (131070 * (32768 * 65535)) (product-abs c) (omega arith)

quotient_fits : (c : goal.Start) → SFits w64 (quotient c)
quotient_fits c = quot_fits w64 65536 (product-fits c)

sum_fits : (c : goal.Start) → SFits w64 (quotient c +ℤ pos c.args.centre)
sum_fits c =
    fit-abs w64 _ (131070 * (32768 * 65535) + 65535) (omega (arith, abs-add (quotient c) (pos c.args.centre), abs-quot (original c *ℤ scale c) 65536, product-abs c)) (omega arith)

-- what the machine computes
scale-is : (c : goal.Start) → to_z w64 (of_z w64 (to_z w16 (of_z w16 c.args.modulator))) *ℤ to_z w64 c.args.param_1 ≡ scale c
scale-is c =
    rw (back w16 _ c.ranges.modulator, back w64 _ (widen16-64 c.ranges.modulator), to_z_pos w64 {n = c.args.param_1} (omega arith))

original-is : (c : goal.Start) → to_z w64 c.args.value -ℤ to_z w64 c.args.centre ≡ original c
original-is c = rw (to_z_pos w64 {n = c.args.value} (omega arith), to_z_pos w64 {n = c.args.centre} (omega arith))

pub overflow_mul-original : goal.overflow_mul-original
overflow_mul-original c = rw (scale-is c, original-is c, back w64 _ (scale-fits c), back w64 _ (original-fits c)) (product-fits c)

pub overflow_add-original : goal.overflow_add-original
overflow_add-original c = rw (scale-is c, original-is c, back w64 _ (scale-fits c), back w64 _ (original-fits c), back w64 _ (product-fits c), back w64 _ (quotient_fits c), to_z_pos w64 {n = c.args.centre} (omega arith)) (sum_fits c)

pub returns : goal.returns
returns c = let s = c.before in
    rw (scale-is s, original-is s, back w64 _ (scale-fits s), back w64 _ (original-fits s), back w64 _ (product-fits s), back w64 _ (quotient_fits s), to_z_pos w64 {n = c.args.centre} (omega arith), back w64 _ (sum_fits s))
    at c.limited.ensures
