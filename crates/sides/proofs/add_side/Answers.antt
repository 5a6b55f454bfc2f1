use borrow.Author.Rules.{rules, sfits_of}
use mathlib.Core.Path.{refl, ap₂, ◌∙◌}
use Prim.Native.Nat.{◌+◌}
use native.Mathlib.Omega.{arith}
use lib.ListN.{length}
use mir.Syntax.{w32}
use Rattle.std.proofs.lemmas.List.{get_or_read_under}
use Rattle.num.proofs.Integers.{back}
use Rattle.sides.specs.Sides.{added}
use Rattle.sides.proofs.Added.{added_next}
use Rattle.sides.proofs.add_side.Goals as goal

pub loop-i-init : goal.loop-i-init
unfolding added
loop-i-init g c = search rules

pub loop-i-preserved : goal.loop-i-preserved
loop-i-preserved g c =
    let m = g.T.SideNumber in
    let l = c.loop-i in
    let a = c.args in
    let s = c.side_of in
    let w = c.with_frame in
    let held = get_or_read_under l.side (a.first + l.i) (length l.side) c.index-side-at.result m.silent c.index-side-at.is (omega arith) refl in
    let y = w.ensures ∙ ap₂ m.plus held (back w32 s.result (sfits_of s.type_inv)) in
    (added_next m.silent m.plus a.stems.now a.others.now a.hand a.first a.side.now l.i l.side s.result w.result l.invariant.0 s.ensures y, l.invariant.1)
