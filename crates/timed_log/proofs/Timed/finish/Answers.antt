use lib.ListN.{length}
use borrow.Author.Rules.{rules}
use Rattle.log_player.specs.Worlds.{world}
use Rattle.timed_log.specs.Ends.{last_run}
use Rattle.timed_log.proofs.Turning.{finishes}
use Rattle.timed_log.proofs.Timed.finish.Goals as goal

pub returns-clause-put : goal.returns-clause-put
returns-clause-put c =
    let a = c.args in
    let e = c.last_frame-ran.ensures in
    let p = finishes (last_run (length a.out.now) (world a.self.player a.ram.now a.queues.now) a.self.clock a.rest) _ _ _ _ _ a.out.now _ _ _ (e.result, (e.ram, (e.queues, (e.out, e.bound)))) c.put_last.ensures.put in
    let text = p.1 in
    let same = c.put_last.ensures.same in
    (p.0, search rules)
