use Rattle.std.specs.Prelude.{Some}
use Rattle.std.proofs.Common.{ℕ, ap, le-ltb, lt-ltb, eq-eqb, ne_eqb}
use Rattle.stream.specs.Tick.{plan_of}
use Rattle.stream.proofs.tick.plan_of.Goals as goal

pub returns-then-at-count : goal.returns-then-at-count
unfolding plan_of
returns-then-at-count c = rw (← c.whole-at.ensures.result, lt-ltb _ _ c.if-at-count.true)

pub returns-then-count-eq0 : goal.returns-then-count-eq0
unfolding plan_of
returns-then-count-eq0 c = rw (← c.whole-at.ensures.result, le-ltb _ _ c.if-at-count.false, eq-eqb _ 0 c.if-count-eq0.true)

pub returns-then-p : goal.returns-then-p
unfolding plan_of
returns-then-p c = rw (← c.whole-at.ensures.result, le-ltb _ _ c.if-at-count.false, ne_eqb _ 0 c.if-count-eq0.false, c.if-p.true) (ap (λ (x : ℕ). Some (c.args.info.loop_sample, x)) c.phase_of.ensures)

pub returns : goal.returns
unfolding plan_of
returns c = rw (← c.whole-at.ensures.result, le-ltb _ _ c.if-at-count.false, ne_eqb _ 0 c.if-count-eq0.false, c.if-p.false)
