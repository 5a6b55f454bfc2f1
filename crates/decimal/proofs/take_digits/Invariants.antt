use mathlib.Core.Path.{◌≡◌}
use Prim.Native.Nat.{◌-◌, ◌^◌, ◌<◌}
use lib.ListN.{length}
use Rattle.decimal.specs.Read.{spelled_at}
use Rattle.decimal.proofs.take_digits.Given as goal

abbrev pub invariant-loop-d : goal.invariant-loop-d
invariant-loop-d l = (spelled_at 0 l.text l.at ≡ spelled_at l.value l.text l.i) × (l.value < 2 ^ 64)

abbrev pub decreases-loop-d : goal.decreases-loop-d
decreases-loop-d l = length l.text - l.i
