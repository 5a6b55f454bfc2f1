use mathlib.Core.Path.{◌≡◌}
use mathlib.Core.Bool.{false}
use Prim.Native.Nat.{◌-◌, ◌^◌, ◌≤◌, ◌<◌}
use lib.ListN.{get_or}
use Rattle.endings.specs.Sets.{off, set_of}
use Rattle.endings.proofs.ended.Given as goal

abbrev pub invariant-loop-ch : goal.invariant-loop-ch
invariant-loop-ch l = (l.ch ≤ 8) × (l.bit ≡ 2 ^ l.ch) × (l.set < l.bit) × (l.set ≡ set_of l.ch (λ n. off (get_or l.was n false) (get_or l.is n false)))

abbrev pub decreases-loop-ch : goal.decreases-loop-ch
decreases-loop-ch l = 8 - l.ch
