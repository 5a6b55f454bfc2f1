use Rattle.std.proofs.Common.{◌∙◌, arith}
use Rattle.frames.proofs.Asks.{no-queues, no-ticks, more-ticks, asked}
use Rattle.frames.proofs.loops.may_run.Goals as goal

pub returns-then-queues-ne-QUEUE_BUFFER : goal.returns-then-queues-ne-QUEUE_BUFFER
returns-then-queues-ne-QUEUE_BUFFER c = let a = c.args in no-queues a.version a.ram.now a.queues.now a.ticks a.core c.if-queues-ne-QUEUE_BUFFER.true

pub returns-then-ticks-lt1 : goal.returns-then-ticks-lt1
returns-then-ticks-lt1 c = let a = c.args in no-ticks a.version a.ram.now a.queues.now a.ticks a.core c.if-queues-ne-QUEUE_BUFFER.false c.if-ticks-lt1.true

pub returns-then-ticks-gt4 : goal.returns-then-ticks-gt4
returns-then-ticks-gt4 c = let a = c.args in more-ticks a.version a.ram.now a.queues.now a.ticks a.core c.if-queues-ne-QUEUE_BUFFER.false (omega (arith, c.if-ticks-lt1.false)) c.if-ticks-gt4.true

pub returns : goal.returns
returns c = let a = c.args in c.accepts.ensures ∙ asked a.version a.ram.now a.queues.now a.ticks a.core c.if-queues-ne-QUEUE_BUFFER.false (omega (arith, c.if-ticks-lt1.false)) (omega (arith, c.if-ticks-gt4.false))
