use mathlib.Core.Path.{refl}
use native.Mathlib.Omega.{arith}
use Rattle.output.proofs.Writing.{puts-within}
use Rattle.log_player.proofs.Batching.{showing-none, showing-room, showing-next}
use Rattle.log_player.proofs.batches.show.Goals as goal

pub loop-i-init : goal.loop-i-init
loop-i-init c = showing-none _ _ _ _ _ _ c.requires.place

pub overflow_add-to : goal.overflow_add-to
overflow_add-to c =
    let a = c.args in
    let l = c.loop-i in
    omega (arith, showing-room a.kinds.now a.addresses.now a.values.now a.left.now a.right.now a.out.now l.out l.out l.frame 0 l.i _ l.invariant c.clocked_by.ensures.result c.loop-i-test.true, c.requires.fact_2.0)

pub offset_bounds-left-frame : goal.offset_bounds-left-frame
offset_bounds-left-frame c =
    let a = c.args in
    let l = c.loop-i in
    omega (arith, showing-room a.kinds.now a.addresses.now a.values.now a.left.now a.right.now a.out.now l.out l.out l.frame 0 l.i _ l.invariant c.clocked_by.ensures.result c.loop-i-test.true, c.requires.fact_2.2)

pub slice_bounds-show_line-end : goal.slice_bounds-show_line-end
slice_bounds-show_line-end c =
    let a = c.args in
    let l = c.loop-i in
    omega (arith, showing-room a.kinds.now a.addresses.now a.values.now a.left.now a.right.now a.out.now l.out l.out l.frame 0 l.i _ l.invariant c.clocked_by.ensures.result c.loop-i-test.true, c.requires.fact_2.0)

pub offset_bounds-right-frame : goal.offset_bounds-right-frame
offset_bounds-right-frame c =
    let a = c.args in
    let l = c.loop-i in
    omega (arith, showing-room a.kinds.now a.addresses.now a.values.now a.left.now a.right.now a.out.now l.out l.out l.frame 0 l.i _ l.invariant c.clocked_by.ensures.result c.loop-i-test.true, c.requires.fact_2.2)

pub slice_bounds-show_line-end-in-loop-i : goal.slice_bounds-show_line-end-in-loop-i
slice_bounds-show_line-end-in-loop-i c =
    let a = c.args in
    let l = c.loop-i in
    omega (arith, showing-room a.kinds.now a.addresses.now a.values.now a.left.now a.right.now a.out.now l.out l.out l.frame 0 l.i _ l.invariant c.clocked_by.ensures.result c.loop-i-test.true, c.requires.fact_2.1)

pub show_line-requires : goal.show_line-requires
show_line-requires c = puts-within _ _ _ c.loop-i.invariant.put

pub loop-i-preserved : goal.loop-i-preserved
loop-i-preserved c =
    let a = c.args in
    let l = c.loop-i in
    let r = showing-room a.kinds.now a.addresses.now a.values.now a.left.now a.right.now a.out.now l.out l.out l.frame 0 l.i _ l.invariant c.clocked_by.ensures.result c.loop-i-test.true in
    showing-next a.kinds.now a.addresses.now a.values.now a.left.now a.right.now a.out.now l.out _ l.frame _ l.i _ l.invariant c.loop-i-test.true c.clocked_by.ensures.result refl
    (omega (arith, r, c.requires.fact_2.0)) (omega (arith, r, c.requires.fact_2.1)) c.show_line.ensures.put c.show_line.ensures.bound
