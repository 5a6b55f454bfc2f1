use borrow.Author.Tests.{eq-eqb, ne_eqb}
use mathlib.Core.Path.{◌∙◌}
use Rattle.registers.specs.Queue.{advanced}
use Rattle.registers.proofs.Fifo.advance.Goals as goal

pub returns-then-hold-eq0-clause-result : goal.returns-then-hold-eq0-clause-result
unfolding advanced
returns-then-hold-eq0-clause-result c = (c.pop.ensures.result ∙ simp (eq-eqb _ _ c.if-hold-eq0.true))

pub returns-clause-result : goal.returns-clause-result
unfolding advanced
returns-clause-result c = (simp (ne_eqb _ _ c.if-hold-eq0.false))
