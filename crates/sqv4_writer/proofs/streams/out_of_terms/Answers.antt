use borrow.Author.Tests.{eq-eqb, ne_eqb, lt-ltb, le-ltb}
use Rattle.sqv4_writer.specs.Streams.{out_of_terms}
use Rattle.sqv4_writer.proofs.streams.out_of_terms.Goals as goal

pub returns-then-terms-eq0 : goal.returns-then-terms-eq0
unfolding out_of_terms
returns-then-terms-eq0 c = rw (eq-eqb c.args.terms.rate 0 c.if-terms-eq0.true)

pub returns-then-terms-eq0-2 : goal.returns-then-terms-eq0-2
unfolding out_of_terms
returns-then-terms-eq0-2 c = rw (ne_eqb c.args.terms.rate 0 c.if-terms-eq0.false, eq-eqb c.args.terms.volume 0 c.if-terms-eq0-2.true)

pub returns-then-terms-gt-MAX_STEP_INDEX : goal.returns-then-terms-gt-MAX_STEP_INDEX
unfolding out_of_terms
returns-then-terms-gt-MAX_STEP_INDEX c =
    let a = c.args in
    rw (ne_eqb a.terms.rate 0 c.if-terms-eq0.false, ne_eqb a.terms.volume 0 c.if-terms-eq0-2.false, lt-ltb 88 a.terms.index c.if-terms-gt-MAX_STEP_INDEX.true)

pub returns : goal.returns
unfolding out_of_terms
returns c =
    let a = c.args in
    rw (ne_eqb a.terms.rate 0 c.if-terms-eq0.false, ne_eqb a.terms.volume 0 c.if-terms-eq0-2.false, le-ltb 88 a.terms.index c.if-terms-gt-MAX_STEP_INDEX.false)
