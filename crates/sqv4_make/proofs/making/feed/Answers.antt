use Rattle.std.proofs.Common.{length, get_or, ap, ◌∙◌}
use Rattle.sqv4_make.proofs.Steps.{length-step, fed-next, fed-all}
use Rattle.sqv4_make.proofs.making.feed.Goals as goal

pub loop-byte-preserved : goal.loop-byte-preserved
loop-byte-preserved c =
    let l = c.loop-byte in
    let a = c.args in
    let e = c.step-making.ensures in
    let n = fed-next l.making l.samples a.bytes.now l.byte-index _ _ c.loop-byte-test.true e.result e.samples in
    (ap length e.samples ∙ length-step l.making (get_or a.bytes.now l.byte-index 0) l.samples ∙ l.invariant.0, n.0 ∙ l.invariant.1, n.1 ∙ l.invariant.2)

pub returns-clause-result : goal.returns-clause-result
returns-clause-result c = let l = c.loop-byte in let e = fed-all l.making l.samples _ l.byte-index c.loop-byte-test.false in (e.0 ∙ l.invariant.1)

pub returns-clause-samples : goal.returns-clause-samples
returns-clause-samples c = let l = c.loop-byte in let e = fed-all l.making l.samples _ l.byte-index c.loop-byte-test.false in (e.1 ∙ l.invariant.2)
