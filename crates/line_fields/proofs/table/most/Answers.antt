use mathlib.Core.Path.{sym}
use native.Mathlib.Omega.{arith}
use Rattle.line_fields.proofs.Ranges.{most-fifo, most-plain, most-state, most-byte, most-count, most-sample}
use Rattle.line_fields.proofs.table.most.Goals as goal

pub returns-then-fifo : goal.returns-then-fifo
returns-then-fifo c = sym (most-fifo _ _ c.if-k-eq2.true c.if-fifo.true)

pub returns-then-k-eq2 : goal.returns-then-k-eq2
returns-then-k-eq2 c = sym (most-plain _ _ c.if-k-eq2.true c.if-fifo.false)

pub returns-then-k-lt25 : goal.returns-then-k-lt25
returns-then-k-lt25 c = sym (most-state _ _ c.if-k-eq2.false c.if-k-lt25.true)

pub returns-then-k-lt281 : goal.returns-then-k-lt281
returns-then-k-lt281 c = sym (most-byte _ _ c.if-k-lt25.false c.if-k-lt281.true)

pub returns-then-k-eq281 : goal.returns-then-k-eq281
returns-then-k-eq281 c = sym (most-count _ _ c.if-k-eq281.true)

pub returns-else-k-eq281 : goal.returns-else-k-eq281
returns-else-k-eq281 c = let h = c.if-k-lt281.false in let e = c.if-k-eq281.false in sym (most-sample _ _ (omega arith))
