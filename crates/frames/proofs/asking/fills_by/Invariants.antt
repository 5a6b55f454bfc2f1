use Rattle.std.proofs.Common.{◌≡◌, ◌+◌, ◌*◌, ◌≤◌, length, drop}
use Rattle.sizes.specs.Sizes.{stems_per_frame}
use Rattle.frames.specs.Listing.{frames_asked}
use Rattle.frames.proofs.asking.fills_by.Given as goal

abbrev pub invariant-loop-kind : goal.invariant-loop-kind
invariant-loop-kind l =
    let i = length l.yielded in
    (i ≤ length l.kinds) × (l.kind-iterator.a.rest.now ≡ drop i l.kinds) × (l.kind-iterator.b.rest.now ≡ drop i l.addresses) × (l.rest + stems_per_frame * frames_asked l.kinds l.addresses 0 i ≡ l.stems)
