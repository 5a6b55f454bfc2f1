use Rattle.std.proofs.Common.{◌%◌, eq-eqb, ne_eqb}
use Rattle.stream.specs.Cache.{stored_as}
use Rattle.stream.proofs.StreamCache.stored.Goals as goal

pub returns-then-frame-eq0 : goal.returns-then-frame-eq0
unfolding stored_as
returns-then-frame-eq0 c = rw (eq-eqb (c.args.frame % 2) 0 c.if-frame-eq0.true)

pub returns : goal.returns
unfolding stored_as
returns c = rw (ne_eqb (c.args.frame % 2) 0 c.if-frame-eq0.false)
