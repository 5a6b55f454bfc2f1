use Rattle.std.proofs.Common.{◌+◌, ◌-◌, ◌*◌, ◌^◌, ◌<◌, ◌≤◌, length}
use Rattle.sizes.specs.Sizes.{stems_per_frame}
use Rattle.frames.specs.Listing.{lent_list, frames_asked}
use Rattle.frames.proofs.Playing.{Going}
use Rattle.frames.proofs.loops.play_calls.Given as goal

abbrev pub invariant-loop-turn : goal.invariant-loop-turn
invariant-loop-turn l =
    Going l.kinds l.addresses l.first l.n l.turns l.from l.to l.ram (lent_list l.initial.core l.initial.version l.ram l.initial.queues l.initial.values) l.initial.stems l.at (length l.initial.values) l.core l.version l.queues l.values l.stems l.place l.i l.turn l.stop
    × (l.to ≤ length l.kinds) × (l.to ≤ length l.addresses) × (l.to ≤ length l.initial.values) × (l.at + (2 * l.turns + stems_per_frame * frames_asked l.kinds l.addresses l.from (l.to - l.from)) ≤ length l.initial.stems) × (l.stop < 2 ^ 64) × (length l.initial.stems < 2 ^ 64)

abbrev pub decreases-loop-turn : goal.decreases-loop-turn
decreases-loop-turn l = l.stop - l.turn + (8 * (frames_asked l.kinds l.addresses l.from (l.to - l.from) - frames_asked l.kinds l.addresses l.from (l.i - l.from)) + (l.to - l.i))
