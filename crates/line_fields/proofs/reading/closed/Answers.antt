use mathlib.Core.Path.{sym}
use Rattle.line_fields.proofs.Taking.{closed_in, closed-other, closed-out}
use Rattle.line_fields.proofs.reading.closed.Goals as goal

pub returns-then-text-at-eq10 : goal.returns-then-text-at-eq10
returns-then-text-at-eq10 c = sym (closed_in _ _ c.if-text-at-eq10.true)

pub returns-else-text-at-eq10 : goal.returns-else-text-at-eq10
returns-else-text-at-eq10 c = sym (closed-other _ _ c.if-text-at-eq10.false)

pub returns-else-at-text : goal.returns-else-at-text
returns-else-at-text c = sym (closed-out _ _ c.if-at-text.false)
