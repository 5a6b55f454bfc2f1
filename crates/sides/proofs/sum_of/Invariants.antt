use mathlib.Core.Path.{◌≡◌}
use Prim.Native.Nat.{◌-◌, ◌*◌, ◌≤◌}
use lib.IntN.{nat_abs}
use Rattle.sides.specs.Sides.{side_sum}
use Rattle.sides.proofs.sum_of.Given as goal

abbrev pub invariant-loop-ch : goal.invariant-loop-ch
invariant-loop-ch l = (l.ch ≤ 8) × (l.sum ≡ side_sum l.ch l.stems l.from) × (nat_abs l.sum ≤ 32768 * l.ch)

abbrev pub decreases-loop-ch : goal.decreases-loop-ch
decreases-loop-ch l = 8 - l.ch
