use mathlib.Core.Path.{◌≡◌}
use lib.ListN.{drop}
use Rattle.version.specs.Names.{drop_v}
use Rattle.version.proofs.names.v_count.Given as goal

abbrev pub invariant-loop-at : goal.invariant-loop-at
invariant-loop-at l = drop_v (drop l.at l.s) ≡ drop_v l.s
