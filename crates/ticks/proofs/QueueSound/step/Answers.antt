use mathlib.Core.Path.{◌≡◌, sym, subst}
use mathlib.Core.List.{List}
use Prim.Native.Nat.{ℕ, ◌+◌}
use native.Mathlib.Omega.{arith}
use lib.IntN.{ℤ}
use mir.Syntax.{w16}
use mir.Val.{SFits}
use Rattle.num.proofs.Integers.{back}
use Rattle.registers.specs.declared.Fifo.{Fifo}
use Rattle.ticks.specs.Mix.{heard, Room}
use Rattle.ticks.specs.Queues.{fifo_tick, queue_tick}
use Rattle.ticks.specs.declared.Sides.{Sides}
use Rattle.ticks.specs.declared.QueueSound.{QueueSound}
use Rattle.ticks.proofs.Sums.{heard-room}
use Rattle.ticks.proofs.QueueSound.step.Goals as goal

step_is : (frequency panpot : ℕ) (q : List ℤ) (v : QueueSound) (f : Fifo) (sides : Sides) → f ≡ fifo_tick frequency q v.fifo → sides ≡ heard v.sides f.held panpot
    → ◌≡◌ {A = QueueSound} (record { fifo = f; sides = sides }) (queue_tick frequency panpot q v)
unfolding queue_tick
step_is frequency panpot q v f sides ef es = rw (es, ef)

pub returns-clause-result : goal.returns-clause-result
returns-clause-result c =
    let t = c.tick-fifo in
    let a = c.args in
    let h : SFits w16 t.result.held = record { sfits = omega arith } in
    let e = rw (back w16 _ h) at c.with_sample-sides.ensures in (step_is a.g.frequency a.g.panpot a.queue.now a.self _ _ t.ensures.result e)

pub returns-clause-adds : goal.returns-clause-adds
returns-clause-adds c =
    let t = c.tick-fifo in
    let a = c.args in
    let h : SFits w16 t.result.held = record { sfits = omega arith } in
    let e = rw (back w16 _ h) at c.with_sample-sides.ensures in (λ m l r. subst (Room (m + 1)) (sym e) (heard-room m a.self.sides t.result.held a.g.panpot (omega arith) h c.well_formed.1.0.1.1.1.1.1.0.1 r))
