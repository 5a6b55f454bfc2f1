use mathlib.Core.Path.{refl, sym, subst, ◌∙◌}
use Rattle.output.proofs.Writing.{put-long, puts-within}
use mathlib.Core.List.{[]}
use native.Mathlib.Omega.{arith}
use lib.ListN.{length}
use borrow.Author.Rules.{rules}
use Rattle.log_player.specs.Worlds.{world}
use Rattle.log_player.specs.Runs.{spot, run_from}
use Rattle.log_player.proofs.Running.{running-batch, running-stop, running-full, running-long, Promised}
use Rattle.log_player.proofs.Rooms.{room-there, room-over}
use Rattle.log_player.proofs.Player.run_lines.Goals as goal

pub batch-batch-requires-clause-fact_2 : goal.batch-batch-requires-clause-fact_2
batch-batch-requires-clause-fact_2 c =
    let l = c.loop-ram in
    let h = c.has_room.ensures in
    let t = c.loop-ram-test.true in
    ((h.number_bound t, room-there _ _ _ _ _ h.result t))

pub returns-then-line-first : goal.returns-then-line-first
returns-then-line-first c =
    let a = c.args in
    let l = c.loop-ram in
    let e = c.batch-batch.ensures in
    let k = e.stops c.if-line-first.true in
    let run = (run_from (length a.out.now) a.input.now (spot (world a.self a.ram.now a.queues.now) a.number a.from [])) in
    let more = c.has_room.ensures.number_bound c.loop-ram-test.true in
    let r = running-batch a.input.now run (world l.player l.ram l.queues) l.line l.place _ l.text _ _ _ _ l.invariant.3 e in
    let w = running-stop a.input.now run _ _ _ _ _ _ _ _ refl _ (omega (arith, k.1, put-long _ _ _ _ e.text e.put.put)) (omega (arith, more, c.if-line-first.true)) k.0 r c.stop.ensures in
    let text = w.1.1.1.0 in
    let same = c.stop.ensures.put.same ∙ r.put.same in
    record { result = w.0; ram = w.1.0; queues = w.1.1.0; out = search rules; bound = w.1.1.1.1 }

pub stop-requires : goal.stop-requires
stop-requires c = puts-within _ _ _ c.batch-batch.ensures.put

pub loop-ram-preserved : goal.loop-ram-preserved
loop-ram-preserved c =
    let a = c.args in
    let l = c.loop-ram in
    let t = c.batch-batch in
    let e = t.ensures in (
      t.auto.ram ∙ l.invariant.0,
      t.auto.queues ∙ l.invariant.1,
      e.accepted,
      running-batch a.input.now (run_from (length a.out.now) a.input.now (spot (world a.self a.ram.now a.queues.now) a.number a.from [])) (world l.player l.ram l.queues) l.line l.place _ l.text _ _ _ _ l.invariant.3 e,
    )

pub returns : goal.returns
returns c =
    let a = c.args in
    let l = c.loop-ram in
    let run = (run_from (length a.out.now) a.input.now (spot (world a.self a.ram.now a.queues.now) a.number a.from [])) in
    let long = running-long _ _ _ _ _ _ _ l.invariant.3 in
    let w = subst (Promised run _ _ a.out.now _) (sym c.ran.ensures)
    (running-full a.input.now run _ _ _ _ _ _ _ refl (room-over _ _ _ _ _ _ c.has_room.ensures.result c.loop-ram-test.false long) l.invariant.3) in
    let text = w.1.1.1.0 in
    let same = l.invariant.3.put.same in
    record { result = w.0; ram = w.1.0; queues = w.1.1.0; out = search rules; bound = w.1.1.1.1 }
