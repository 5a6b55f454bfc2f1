use Rattle.std.proofs.Common.{◌≡◌, ◌≤◌, length, drop}
use Rattle.frames.specs.Stored.{calls_stored}
use Rattle.frames.proofs.lists.store_bytes.Given as goal

abbrev pub invariant-loop-address : goal.invariant-loop-address
invariant-loop-address l =
    let i = length l.yielded in
    (i ≤ length l.addresses) × (l.address-iterator.a.rest.now ≡ drop i l.addresses) × (l.address-iterator.b.rest.now ≡ drop i l.values) × (length l.ram ≡ length l.initial.ram) × (l.ram ≡ calls_stored l.addresses l.values 0 i l.initial.ram)
