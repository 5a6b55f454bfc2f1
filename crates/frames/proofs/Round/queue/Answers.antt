use Rattle.std.proofs.Common.{◌*◌, sym, refl, subst, arith}
use Rattle.sizes.specs.Sizes.{fifo_capacity}
use Rattle.registers.specs.Queue.{FitFifo}
use Rattle.ticks.specs.Mix.{Room}
use Rattle.ticks.specs.declared.QueueSound.{QueueSound}
use Rattle.ticks.proofs.Sums.{room-none}
use Rattle.frames.proofs.Calls.{queue-is}
use Rattle.frames.proofs.Fits.{fit-channel}
use Rattle.frames.proofs.Keeping.{queue-kept, plain-room}
use Rattle.frames.proofs.Round.queue.Goals as goal

pub returns-clause-result : goal.returns-clause-result
returns-clause-result c =
    let a = c.args in
    let run = c.run in
    let sound = c.queue_sound in
    let from = a.ch * fifo_capacity in
    let e = queue-is a.n a.c.registers.frequency a.c.registers.panpot from _ a.queues.now _ _ _ refl sound.ensures run.ensures.result in (e)

pub returns-clause-keeps_fifo : goal.returns-clause-keeps_fifo
returns-clause-keeps_fifo c =
    let a = c.args in
    let run = c.run in
    let sound = c.queue_sound in
    let from = a.ch * fifo_capacity in
    let e = queue-is a.n a.c.registers.frequency a.c.registers.panpot from _ a.queues.now _ _ _ refl sound.ensures run.ensures.result in ((λ kind ram accepted.
    let g = run.type_inv.1.1 in
    let fits : FitFifo run.result.fifo = record { sample = record { sfits = g.0.1.1.1.1.0.1 }; byte = g.0.1.1.1.1.1.1.1.0.1 } in
    queue-kept a.c a.self.version ram a.n (omega arith) kind accepted (fit-channel a.c c.well_formed.1.0.1.1) _ _ e fits (plain-room a.n _ (run.ensures.adds 0 (omega arith) (subst (λ (v : QueueSound). Room 0 v.sides) (sym sound.ensures) room-none)))))
