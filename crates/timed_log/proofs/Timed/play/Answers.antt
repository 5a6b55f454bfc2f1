use lib.ListN.{length}
use Rattle.timed_log.specs.Turns.{standing}
use Rattle.timed_log.proofs.Turning.{plays}
use Rattle.timed_log.proofs.Timed.play.Goals as goal

pub returns : goal.returns
returns c =
    let a = c.args in
    let e = c.run-ran.ensures in
    let w = plays (length a.out.now) (standing a.self a.ram.now a.queues.now a.plain.now a.from a.number) _ c.part.ensures _ _ _ _ _ a.out.now _ (e.result, (e.ram, (e.queues, (e.out, e.bound)))) c.left_of.ensures c.goes_on.ensures in
    record { result = w.0; ram = w.1.0; queues = w.1.1.0; out = w.1.1.1 }
