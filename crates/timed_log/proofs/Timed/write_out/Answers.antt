use mathlib.Core.List.{[]}
use Rattle.timed_log.specs.Turns.{standing}
use Rattle.timed_log.proofs.Turning.{tells-anywhere, writes-none, writes-some}
use Rattle.timed_log.proofs.Timed.write_out.Goals as goal

pub returns-then-unrolled-eq0 : goal.returns-then-unrolled-eq0
returns-then-unrolled-eq0 c =
    let a = c.args in
    let u = c.unroll-unrolled.ensures in
    let t = c.tell.ensures in
    let w = writes-none a.input.now (standing a.self [] [] a.plain.now a.from a.number) _ _ _ a.out.now _ u.result u.plain c.if-unrolled-eq0.true (tells-anywhere a.input.now a.self a.plain.now _ _ a.out.now _ _ (t.result, t.out)) in
    record { result = w.0; plain = w.1.0; out = w.1.1 }

pub returns : goal.returns
returns c =
    let a = c.args in
    let u = c.unroll-unrolled.ensures in
    let w = writes-some a.input.now (standing a.self [] [] a.plain.now a.from a.number) _ _ a.out.now u.result u.plain c.if-unrolled-eq0.false in
    record { result = w.0; plain = w.1.0; out = w.1.1 }
