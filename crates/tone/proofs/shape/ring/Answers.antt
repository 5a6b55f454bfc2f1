use Rattle.std.proofs.Common.{ℕ, ◌*◌, ap, w16}
use Rattle.num.proofs.Integers.{back}
use Rattle.tone.specs.Shape.{ring}
use Rattle.tone.proofs.shape.ring.Goals as goal

pub returns-then-interpolate : goal.returns-then-interpolate
unfolding ring
returns-then-interpolate c = rw c.if-interpolate.true (rw (back w16 _ c.ranges.modulator) at c.rung.ensures.0)

pub returns : goal.returns
unfolding ring
returns c = rw c.if-interpolate.false (ap (λ (x : ℕ). x * 256) (rw (back w16 _ c.ranges.modulator) at c.rung-2.ensures.0))
