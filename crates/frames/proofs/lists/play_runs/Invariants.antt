use Rattle.std.proofs.Common.{◌-◌, ◌*◌, ◌≤◌, length, refl}
use Rattle.sizes.specs.Sizes.{stems_per_frame}
use Rattle.frames.specs.Listing.{lent_list, frames_asked}
use Rattle.frames.proofs.Runs.{Ran}
use Rattle.frames.proofs.lists.play_runs.Given as goal

abbrev pub invariant-loop-i : goal.invariant-loop-i
invariant-loop-i l =
    Ran l.kinds l.addresses l.count (lent_list l.initial.core l.initial.version l.initial.ram l.initial.queues l.initial.values) l.initial.stems refl l.core l.version l.ram l.queues l.values l.stems l.i l.at
    × (l.count ≤ length l.kinds) × (l.count ≤ length l.addresses) × (l.count ≤ length l.initial.values) × (stems_per_frame * frames_asked l.kinds l.addresses 0 l.count ≤ length l.initial.stems)

abbrev pub decreases-loop-i : goal.decreases-loop-i
decreases-loop-i l = l.count - l.i
