use Rattle.std.proofs.Common.{◌%◌, eq-eqb, ne_eqb}
use Rattle.stream.specs.Accepted.{loop_fits}
use Rattle.stream.proofs.accepted.is_loop_fit.Goals as goal

pub returns-then-loop_sample-eq0 : goal.returns-then-loop_sample-eq0
unfolding loop_fits
returns-then-loop_sample-eq0 c = rw (eq-eqb c.args.loop_sample 0 c.if-loop_sample-eq0.true)

pub returns-then-loop_sample-per-ne0 : goal.returns-then-loop_sample-per-ne0
unfolding loop_fits
returns-then-loop_sample-per-ne0 c =
    let a = c.args in rw (ne_eqb a.loop_sample 0 c.if-loop_sample-eq0.false, ne_eqb (a.loop_sample % a.per) 0 c.if-loop_sample-per-ne0.true)

pub returns : goal.returns
unfolding loop_fits
returns c =
    let a = c.args in rw (ne_eqb a.loop_sample 0 c.if-loop_sample-eq0.false, eq-eqb (a.loop_sample % a.per) 0 c.if-loop_sample-per-ne0.false)
