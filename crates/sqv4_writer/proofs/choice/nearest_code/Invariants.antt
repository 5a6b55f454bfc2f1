use mathlib.Core.Path.{◌≡◌}
use Prim.Native.Nat.{◌-◌}
use Rattle.sqv4_writer.specs.Choice.{nearest_of, distance_of}
use Rattle.sqv4_writer.proofs.choice.nearest_code.Given as goal

abbrev pub invariant-loop-code : goal.invariant-loop-code
invariant-loop-code l =
    (l.best ≡ nearest_of (distance_of l.variant l.volume l.state l.sample) (l.code - 1)) × (l.least ≡ distance_of l.variant l.volume l.state l.sample l.best)
