use mathlib.Core.Path.{◌≡◌}
use Prim.Native.Nat.{◌+◌, ◌≤◌}
use lib.ListN.{length}
use Rattle.decimal.specs.Written.{decimal}
use Rattle.decimal.proofs.natural_width.Given as goal

abbrev pub invariant-loop-rest : goal.invariant-loop-rest
invariant-loop-rest l = (length (decimal l.n) + 1 ≡ l.width + length (decimal l.rest)) × (l.width + l.rest ≤ l.n + 1)

abbrev pub decreases-loop-rest : goal.decreases-loop-rest
decreases-loop-rest l = l.rest
