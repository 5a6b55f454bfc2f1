use mathlib.Core.Path.{◌≡◌}
use Prim.Native.Nat.{◌*◌, ◌-◌, ◌^◌, ◌<◌}
use lib.ListN.{length}
use Rattle.frames.specs.Listing.{call_count}
use Rattle.chip_lists.specs.Plays.{playing}
use Rattle.chip_lists.specs.Second.{Lends}
use Rattle.chip_lists.proofs.Each.{Going}
use Rattle.chip_lists.proofs.play_each.Given as goal

abbrev pub invariant-loop-i : goal.invariant-loop-i
invariant-loop-i l =
    Going l.kinds l.addresses (playing l.initial.chip l.initial.ram l.initial.queues l.initial.values l.initial.stems l.initial.others) l.chip l.ram l.queues l.values l.stems l.others l.at l.i
    × Lends l.kinds l.addresses (playing l.initial.chip l.initial.ram l.initial.queues l.initial.values l.initial.stems l.initial.others)
    × (l.count ≡ call_count l.kinds l.addresses l.initial.values) × (2 * length l.initial.stems < 2 ^ 64)

abbrev pub decreases-loop-i : goal.decreases-loop-i
decreases-loop-i l = l.count - l.i
