use Rattle.timed_log.proofs.Turning.{runs_on, runs-out}
use Rattle.timed_log.proofs.Timed.run.Goals as goal

pub returns-then-self : goal.returns-then-self
returns-then-self c =
    let a = c.args in
    let e = c.play.ensures in
    let w = runs_on a.input.now a.self a.ram.now a.queues.now a.plain.now a.from a.number _ _ _ a.out.now _ c.if-self.true (e.result, (e.ram, (e.queues, e.out))) in
    record { result = w.0; plain = w.1.0; ram = w.1.1.0; queues = w.1.1.1.0; out = w.1.1.1.1 }

pub returns : goal.returns
returns c =
    let a = c.args in
    let e = c.write_out.ensures in
    let w = runs-out a.input.now a.self a.ram.now a.queues.now a.plain.now a.from a.number _ _ a.out.now _ c.if-self.false (e.result, (e.plain, e.out)) in
    record { result = w.0; plain = w.1.0; ram = w.1.1.0; queues = w.1.1.1.0; out = w.1.1.1.1 }
