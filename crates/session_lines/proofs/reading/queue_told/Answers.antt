use mathlib.Core.Path.{sym, ap, ◌∙◌}
use mathlib.Core.Bool.{Bool, cond}
use Rattle.registers.specs.Queue.{kept_fifo}
use Rattle.session_lines.specs.Numbers.{at, fifo_of}
use Rattle.session_lines.specs.Lines.{queue_told}
use Rattle.session_lines.proofs.reading.queue_told.Goals as goal

pub returns-then-line : goal.returns-then-line
unfolding queue_told
returns-then-line c = c.kept.ensures ∙ ap (kept_fifo c.args.line.version) c.fifo-queue.ensures ∙ sym (ap (λ (b : Bool). cond b (kept_fifo c.args.line.version (fifo_of (at c.args.line.numbers.now))) (fifo_of (at c.args.line.numbers.now))) c.if-line.true)

pub returns : goal.returns
unfolding queue_told
returns c = c.fifo-queue.ensures ∙ sym (ap (λ (b : Bool). cond b (kept_fifo c.args.line.version (fifo_of (at c.args.line.numbers.now))) (fifo_of (at c.args.line.numbers.now))) c.if-line.false)
