use mathlib.Core.Path.{sym, ◌∙◌}
use borrow.Author.Tests.{eq-eqb, ne_eqb}
use Rattle.sqv4.specs.Files.{named}
use Rattle.sqv4.proofs.check.check_named.Goals as goal

pub returns-then-zero-ne0 : goal.returns-then-zero-ne0
unfolding named
returns-then-zero-ne0 c = rw (sym c.one_or_two.ensures.result ∙ c.if-one_or_two.true, ne_eqb _ 0 c.if-zero-ne0.true)

pub returns-then-rate-eq0 : goal.returns-then-rate-eq0
unfolding named
returns-then-rate-eq0 c = rw (sym c.one_or_two.ensures.result ∙ c.if-one_or_two.true, eq-eqb _ 0 c.if-zero-ne0.false, eq-eqb _ 0 (sym c.number-rate.ensures.result ∙ c.if-rate-eq0.true))

pub returns-then-one_or_two : goal.returns-then-one_or_two
unfolding named
returns-then-one_or_two c = rw (sym c.one_or_two.ensures.result ∙ c.if-one_or_two.true, eq-eqb _ 0 c.if-zero-ne0.false, ne_eqb _ 0 (λ q. c.if-rate-eq0.false (c.number-rate.ensures.result ∙ q))) c.measure.ensures

pub returns : goal.returns
unfolding named
returns c = rw (sym c.one_or_two.ensures.result ∙ c.if-one_or_two.false)
