use mathlib.Core.List.{[]}
use borrow.Author.Rules.{rules}
use Rattle.timed_log.specs.Turns.{standing}
use Rattle.timed_log.proofs.Turning.{tells}
use Rattle.timed_log.proofs.Timed.tell.Goals as goal

pub returns : goal.returns
returns c =
    let a = c.args in
    let w = tells a.input.now (standing a.self [] [] [] a.from a.number) _ _ _ a.out.now _ c.next_due-found.ensures c.next_at.ensures c.put_stop.ensures.put in
    let text = w.1 in
    let same = c.put_stop.ensures.same in
    record { result = w.0; out = search rules }
