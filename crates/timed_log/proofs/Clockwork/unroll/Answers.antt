use Rattle.std.specs.Prelude.{Option, Ok}
use mathlib.Core.Path.{refl, sym, ap, subst, ◌∙◌}
use mathlib.Core.List.{[]}
use Prim.Native.Nat.{◌+◌, ◌≤◌}
use native.Mathlib.Omega.{arith}
use lib.ListN.{length}
use borrow.Author.Rules.{rules}
use Rattle.timed_log.specs.declared.LineAhead.{LineAhead}
use Rattle.timed_log.specs.Unrolls.{line_room, reach, unroll_from}
use Rattle.timed_log.proofs.Found.{found-is}
use Rattle.timed_log.proofs.Reaching.{rest-none, bad-none, unrolling-full, unrolling-long, unrolling-stays, unrolling-clock, unrolling-line, Promised}
use Rattle.log_player.proofs.Rooms.{room-there, room-over}
use Rattle.timed_log.proofs.Clockwork.unroll.Goals.{in_default-via-in-Ok+in_default, in_default-via-in_default}
use Rattle.timed_log.proofs.Clockwork.unroll.Goals as goal

pub returns-in_default : goal.returns-in_default
returns-in_default c =
    let a = c.args in
    let l = c.loop-due in
    let w = subst (Promised (unroll_from (length a.plain.now) a.input.now (reach a.self a.number a.from [])) a.plain.now _) (sym c.unrolled.ensures) (unrolling-stays a.input.now _ _ _ _ _ _ refl l.invariant _ (elim c.in_default.branch [ in_default-via-in-Ok+in_default w ↦ rest-none c.next_due.result (search rules) | in_default-via-in_default w ↦ bad-none _ _ w.in_default.is ]) c.next_due.ensures) in
    let text = w.1.0 in
    let same = l.invariant.put.same in
    record { result = w.0; plain = search rules; bound = w.1.1 }

-- ---- a line that was found
pub overflow_sub-gap : goal.overflow_sub-gap
overflow_sub-gap c = (found-is _ _ _ _ _ _ (sym c.next_due.ensures ∙ c.in-Ok-Some.is ∙ ap (λ (o : Option LineAhead). Ok o) c.in-Ok-Some.field-0-is)).taken.late

pub applied-clock-requires : goal.applied-clock-requires
applied-clock-requires c = (found-is _ _ _ _ _ _ (sym c.next_due.ensures ∙ c.in-Ok-Some.is ∙ ap (λ (o : Option LineAhead). Ok o) c.in-Ok-Some.field-0-is)).taken.few

-- a thousand frames
pub loop-due-smaller-then-gap-gt-MOST_FRAMES : goal.loop-due-smaller-then-gap-gt-MOST_FRAMES
loop-due-smaller-then-gap-gt-MOST_FRAMES c =
    let l = c.loop-due in
    let h = c.has_room.ensures in
    let there = room-there _ _ _ _ _ h.result c.loop-due-test.true in
    let room : l.text.at + line_room ≤ length c.args.plain.now = omega (arith, there, unrolling-long _ _ _ _ _ _ _ refl l.invariant) in
    let w = unrolling-clock c.args.input.now _ _ _ _ _ _ refl l.invariant _ _ _ _ room (h.number_bound c.loop-due-test.true) (sym c.next_due.ensures ∙ c.in-Ok-Some.is ∙ ap (λ (o : Option LineAhead). Ok o) c.in-Ok-Some.field-0-is) c.if-gap-gt-MOST_FRAMES.true c.put_clock.ensures in
    omega (arith, w.1, room)

pub loop-due-preserved-then-gap-gt-MOST_FRAMES : goal.loop-due-preserved-then-gap-gt-MOST_FRAMES
loop-due-preserved-then-gap-gt-MOST_FRAMES c =
    let l = c.loop-due in
    let h = c.has_room.ensures in
    let there = room-there _ _ _ _ _ h.result c.loop-due-test.true in
    let room : l.text.at + line_room ≤ length c.args.plain.now = omega (arith, there, unrolling-long _ _ _ _ _ _ _ refl l.invariant) in
    let w = unrolling-clock c.args.input.now _ _ _ _ _ _ refl l.invariant _ _ _ _ room (h.number_bound c.loop-due-test.true) (sym c.next_due.ensures ∙ c.in-Ok-Some.is ∙ ap (λ (o : Option LineAhead). Ok o) c.in-Ok-Some.field-0-is) c.if-gap-gt-MOST_FRAMES.true c.put_clock.ensures in
    rw c.sounded-clock.ensures w.0

-- a line
pub loop-due-smaller : goal.loop-due-smaller
loop-due-smaller c =
    let l = c.loop-due in
    let h = c.has_room.ensures in
    let there = room-there _ _ _ _ _ h.result c.loop-due-test.true in
    let room : l.text.at + line_room ≤ length c.args.plain.now = omega (arith, there, unrolling-long _ _ _ _ _ _ _ refl l.invariant) in
    let w = unrolling-line c.args.input.now _ _ _ _ _ _ refl l.invariant _ _ _ _ room (h.number_bound c.loop-due-test.true) (sym c.next_due.ensures ∙ c.in-Ok-Some.is ∙ ap (λ (o : Option LineAhead). Ok o) c.in-Ok-Some.field-0-is) c.if-gap-gt-MOST_FRAMES.false (rw c.part.ensures at c.put_line.ensures) in
    omega (arith, w.1, room)

pub loop-due-preserved : goal.loop-due-preserved
loop-due-preserved c =
    let l = c.loop-due in
    let h = c.has_room.ensures in
    let there = room-there _ _ _ _ _ h.result c.loop-due-test.true in
    let room : l.text.at + line_room ≤ length c.args.plain.now = omega (arith, there, unrolling-long _ _ _ _ _ _ _ refl l.invariant) in
    let w = unrolling-line c.args.input.now _ _ _ _ _ _ refl l.invariant _ _ _ _ room (h.number_bound c.loop-due-test.true) (sym c.next_due.ensures ∙ c.in-Ok-Some.is ∙ ap (λ (o : Option LineAhead). Ok o) c.in-Ok-Some.field-0-is) c.if-gap-gt-MOST_FRAMES.false (rw c.part.ensures at c.put_line.ensures) in
    rw c.applied-clock.ensures w.0

pub returns : goal.returns
returns c =
    let a = c.args in
    let l = c.loop-due in
    let w = subst (Promised (unroll_from (length a.plain.now) a.input.now (reach a.self a.number a.from [])) a.plain.now _) (sym c.unrolled-2.ensures) (unrolling-full a.input.now _ _ _ _ _ _ refl l.invariant (room-over _ _ _ _ _ _ c.has_room.ensures.result c.loop-due-test.false (unrolling-long _ _ _ _ _ _ _ refl l.invariant))) in
    let text = w.1.0 in
    let same = l.invariant.put.same in
    record { result = w.0; plain = search rules; bound = w.1.1 }
