use Rattle.std.proofs.Common.{◌≡◌, ℕ, ◌+◌, ◌-◌, ◌*◌, ◌≤◌, ℤ, pos, ◌+ℤ◌, ◌*ℤ◌, refl, arith, w16, w32, SFits, to_z, of_z}
use mir.Facts.{to_z_pos}
use Rattle.num.specs.Integers.{up, down}
use Rattle.num.proofs.Integers.{back, fit, fit-up, fit-down, z-add, one-zero, up-mul, down-mul}
use Rattle.num.proofs.Fit.{widen16-32, abs-fit, fit-abs, mul_small}
use native.Mathlib.Nat as N
use Rattle.tone.proofs.taps.blend_samples.Goals as goal

product : (s : ℤ) (n : ℕ) → SFits w16 s → n ≤ 256 → SFits w32 (s *ℤ pos n)
product s n f l = fit-abs w32 _ (32768 * 256) (mul_small s (pos n) 32768 256 (abs-fit w16 f) l) (omega arith)

-- both taps at their largest
mixed : (a b f m : ℕ) → a ≤ m → b ≤ m → f ≤ 255 → a * (256 - f) + b * f ≤ m * 256
mixed a b f m h k l =
    N.le_trans (N.add-le-add (N.mul-le-mul_right (256 - f) h) (N.mul-le-mul_right f k)) (whole m f l)
  where
    whole : (m f : ℕ) → f ≤ 255 → m * (256 - f) + m * f ≤ m * 256
    whole m f l = rw (← N.mul-add m (256 - f) f) (N.mul-le-mul_left m (omega arith))

module _ (a b : ℤ) (f : ℕ) (ha : SFits w16 a) (hb : SFits w16 b) (l : f ≤ 255) where
  abbrev first : ℤ
  first = a *ℤ pos (256 - f)

  abbrev second : ℤ
  second = b *ℤ pos f

  high : up first + up second ≤ 32767 * 256
  high = rw (up-mul a (256 - f), up-mul b f) (mixed (up a) (up b) f 32767 (omega (arith, fit-up ha)) (omega (arith, fit-up hb)) l)

  low : down first + down second ≤ 32768 * 256
  low = rw (down-mul a (256 - f), down-mul b f) (mixed (down a) (down b) f 32768 (fit-down ha) (fit-down hb) l)

  range : (up (first +ℤ second) ≤ 8388607) × (down (first +ℤ second) ≤ 8388608)
  range =
      let s = z-add first second in
      let o = one-zero (first +ℤ second) in
      (omega (arith, high), omega (arith, low))

  sum : SFits w32 (first +ℤ second)
  sum = let r = range in fit w32 _ (omega arith) (omega arith)

abbrev first_of : goal.Start → ℤ
first_of c = c.args.current *ℤ pos (256 - c.args.fraction)

abbrev second-of : goal.Start → ℤ
second-of c = c.args.next *ℤ pos c.args.fraction

-- what the machine computes
first-is : (c : goal.Start) → to_z w32 (of_z w32 (to_z w16 (of_z w16 c.args.current))) *ℤ to_z w32 (256 - c.args.fraction) ≡ first_of c
first-is c =
    rw (back w16 _ c.ranges.current, back w32 _ (widen16-32 c.ranges.current), to_z_pos w32 {n = 256 - c.args.fraction} (omega arith))

second_is : (c : goal.Start) → to_z w32 (of_z w32 (to_z w16 (of_z w16 c.args.next))) *ℤ to_z w32 c.args.fraction ≡ second-of c
second_is c =
    rw (back w16 _ c.ranges.next, back w32 _ (widen16-32 c.ranges.next), to_z_pos w32 {n = c.args.fraction} (omega arith))

first_fits : (c : goal.Start) → SFits w32 (first_of c)
first_fits c = product c.args.current (256 - c.args.fraction) c.ranges.current (omega arith)

second_fits : (c : goal.Start) → SFits w32 (second-of c)
second_fits c = product c.args.next c.args.fraction c.ranges.next (omega arith)

sum_fits : (c : goal.Start) → SFits w32 (first_of c +ℤ second-of c)
sum_fits c = sum c.args.current c.args.next c.args.fraction c.ranges.current c.ranges.next (omega arith)

pub overflow_add-result : goal.overflow_add-result
overflow_add-result c = rw (first-is c, second_is c, back w32 _ (first_fits c), back w32 _ (second_fits c)) (sum_fits c)

pub returns-clause-result : goal.returns-clause-result
returns-clause-result c = rw (first-is c, second_is c, back w32 _ (first_fits c), back w32 _ (second_fits c), back w32 _ (sum_fits c))
    (refl)

pub returns-clause-bound : goal.returns-clause-bound
returns-clause-bound c = rw (first-is c, second_is c, back w32 _ (first_fits c), back w32 _ (second_fits c), back w32 _ (sum_fits c))
    (range c.args.current c.args.next c.args.fraction c.ranges.current c.ranges.next (omega arith))
