use borrow.Author.Rules.{rules}
use mathlib.Core.Path.{refl}
use Prim.Native.Nat.{◌*◌, ◌^◌, ◌<◌}
use native.Mathlib.Omega.{arith}
use lib.ListN.{length}
use Rattle.frames.specs.Listing.{call_count}
use Rattle.chip_lists.specs.Plays.{playing}
use Rattle.chip_lists.proofs.Each.{going-none, going_on, room, room-others, one-lends}
use Rattle.chip_lists.proofs.play_each.Goals as goal

pub loop-i-init : goal.loop-i-init
loop-i-init c = let a = c.args in
    let few : 2 * length a.stems.now < 2 ^ 64 = search rules in
    (going-none a.kinds.now a.addresses.now (playing a.chip a.ram.now a.queues.now a.values.now a.stems.now a.others.now) c.requires refl, c.requires, omega (arith, c.min-count.ensures, c.min.ensures), few)

pub overflow_add-to : goal.overflow_add-to
overflow_add-to c = let a = c.args in
    let l = c.loop-i in
    let h = room a.kinds.now a.addresses.now (playing a.chip a.ram.now a.queues.now a.values.now a.stems.now a.others.now) l.invariant.1 l.chip l.ram l.queues l.values l.stems l.others l.at l.i l.invariant.0 (omega (arith, c.loop-i-test.true, l.invariant.2)) c.clocked_by.result c.clocked_by.ensures.result in
    record { fits = omega (arith, h, l.invariant.0.given, l.invariant.3) }

pub slice_bounds-play_one-end : goal.slice_bounds-play_one-end
slice_bounds-play_one-end c = let a = c.args in
    let l = c.loop-i in
    omega (arith, c.loop-i-test.true, l.invariant.2)

pub slice_bounds-play_one-end-in-loop-i : goal.slice_bounds-play_one-end-in-loop-i
slice_bounds-play_one-end-in-loop-i c = let a = c.args in
    let l = c.loop-i in
    omega (arith, c.loop-i-test.true, l.invariant.2)

pub offset_bounds-stems-at : goal.offset_bounds-stems-at
offset_bounds-stems-at c = let a = c.args in
    let l = c.loop-i in
    let h = room a.kinds.now a.addresses.now (playing a.chip a.ram.now a.queues.now a.values.now a.stems.now a.others.now) l.invariant.1 l.chip l.ram l.queues l.values l.stems l.others l.at l.i l.invariant.0 (omega (arith, c.loop-i-test.true, l.invariant.2)) c.clocked_by.result c.clocked_by.ensures.result in
    record { fits = omega (arith, h, l.invariant.0.given, l.invariant.3) }

pub slice_bounds-play_one-end-in-loop-i-3 : goal.slice_bounds-play_one-end-in-loop-i-3
slice_bounds-play_one-end-in-loop-i-3 c = let a = c.args in
    let l = c.loop-i in
    room a.kinds.now a.addresses.now (playing a.chip a.ram.now a.queues.now a.values.now a.stems.now a.others.now) l.invariant.1 l.chip l.ram l.queues l.values l.stems l.others l.at l.i l.invariant.0 (omega (arith, c.loop-i-test.true, l.invariant.2)) c.clocked_by.result c.clocked_by.ensures.result

pub offset_bounds-others-at : goal.offset_bounds-others-at
offset_bounds-others-at c = let a = c.args in
    let l = c.loop-i in
    let h = room a.kinds.now a.addresses.now (playing a.chip a.ram.now a.queues.now a.values.now a.stems.now a.others.now) l.invariant.1 l.chip l.ram l.queues l.values l.stems l.others l.at l.i l.invariant.0 (omega (arith, c.loop-i-test.true, l.invariant.2)) c.clocked_by.result c.clocked_by.ensures.result in
    record { fits = omega (arith, h, l.invariant.0.given, l.invariant.3) }

pub slice_bounds-play_one-end-in-loop-i-4 : goal.slice_bounds-play_one-end-in-loop-i-4
slice_bounds-play_one-end-in-loop-i-4 c = let a = c.args in
    let l = c.loop-i in
    room-others a.kinds.now a.addresses.now (playing a.chip a.ram.now a.queues.now a.values.now a.stems.now a.others.now) l.invariant.1 l.chip l.ram l.queues l.values l.stems l.others l.at l.i l.invariant.0 (omega (arith, c.loop-i-test.true, l.invariant.2)) c.clocked_by.result c.clocked_by.ensures.result

pub play_one-chip-requires-clause-fact_2 : goal.play_one-chip-requires-clause-fact_2
play_one-chip-requires-clause-fact_2 c = let a = c.args in
    let l = c.loop-i in
    let r = c.clocked_by in
    let more : l.i < call_count a.kinds.now a.addresses.now a.values.now = omega (arith, c.loop-i-test.true, l.invariant.2) in
    (one-lends a.kinds.now a.addresses.now (playing a.chip a.ram.now a.queues.now a.values.now a.stems.now a.others.now) l.invariant.1 l.chip l.ram l.queues l.values l.stems l.others l.at l.i l.invariant.0 more r.result r.ensures.result)

pub loop-i-preserved : goal.loop-i-preserved
loop-i-preserved c = let a = c.args in
    let l = c.loop-i in
    let r = c.clocked_by in
    let p = c.play_one-chip in
    let more : l.i < call_count a.kinds.now a.addresses.now a.values.now = omega (arith, c.loop-i-test.true, l.invariant.2) in
    (going_on a.kinds.now a.addresses.now (playing a.chip a.ram.now a.queues.now a.values.now a.stems.now a.others.now) l.invariant.1 l.chip l.ram l.queues l.values l.stems l.others l.at l.i l.invariant.0 more r.result r.ensures.result _ _ _ _ _ _ p.ensures p.auto.ram p.auto.queues p.auto.values p.auto.stems p.auto.others, l.invariant.1, l.invariant.2, l.invariant.3)
