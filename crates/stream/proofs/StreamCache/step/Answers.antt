use Rattle.std.proofs.Common.{◌+◌, ap, ◌∙◌}
use Rattle.stream.specs.Cache.{stored_as, step}
use Rattle.stream.proofs.StreamCache.step.Goals as goal

pub returns-clause-result : goal.returns-clause-result
unfolding step
returns-clause-result c =
    let f = c.args.self.next_frame in
    let e = rw c.requires.fact_4 at c.decode_into-after.ensures.result in
    (c.stored.ensures ∙ ap (stored_as c.args.self f (f + 1)) e)

pub returns-clause-samples : goal.returns-clause-samples
unfolding step
returns-clause-samples c =
    let f = c.args.self.next_frame in
    let e = rw c.requires.fact_4 at c.decode_into-after.ensures.result in
    (c.decode_into-after.ensures.samples)
