use mathlib.Core.Path.{◌≡◌}
use Prim.Native.Nat.{◌≤◌}
use lib.Dec.{eqb}
use lib.IntN.{pos}
use lib.ListN.{get_or}
use Rattle.rest.specs.Rest.{is_zero, every}
use Rattle.rest.proofs.are_zeros.Given as goal

abbrev pub invariant-loop-fragment : goal.invariant-loop-fragment
invariant-loop-fragment l = (l.others ≤ l.fragment-index) × (eqb l.others 0 ≡ every l.fragment-index (λ j. is_zero (get_or l.fn.fragments j (pos 0))))
