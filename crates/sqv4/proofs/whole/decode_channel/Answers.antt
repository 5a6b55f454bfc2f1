use native.Mathlib.Omega.{arith}
use Prim.Native.Nat.{◌+◌, ◌≤◌}
use lib.ListN.{length}
use Rattle.sqv4.proofs.Wholes.{start, turn, ended, fragment-room}
use Rattle.sqv4.proofs.whole.decode_channel.Goals as goal

-- the fragment lies in the file
inside : (c : goal.After-frame_length-count) → c.loop-frame.from + c.args.header.frame_size ≤ length c.args.file.now
inside c =
    let l = c.loop-frame in
    fragment-room c.args.file.now c.args.header c.args.channel l.frame l.from c.requires.fact_1 c.loop-frame-test.true c.requires.fact_2 l.invariant.first

pub loop-frame-init : goal.loop-frame-init
loop-frame-init c = let a = c.args in rw c.default-state.ensures (start a.file.now a.header a.channel a.samples.now)

pub slice_bounds-decode_part-end : goal.slice_bounds-decode_part-end
slice_bounds-decode_part-end c = omega (arith, inside c)

pub loop-frame-preserved : goal.loop-frame-preserved
loop-frame-preserved c =
    let a = c.args in
    let l = c.loop-frame in
    let n = c.frame_length-count in
    turn a.file.now a.header a.channel a.samples.now l.samples _ l.state _ l.frame l.from l.at n.result c.requires.fact_1 c.loop-frame-test.true
    n.ensures.bound n.ensures.result c.decode_part-state.ensures.out c.decode_part-state.ensures.result l.invariant

pub returns : goal.returns
returns c =
    let a = c.args in
    let l = c.loop-frame in
    ended a.file.now a.header a.channel a.samples.now l.samples l.state l.frame l.from l.at c.loop-frame-test.false l.invariant
