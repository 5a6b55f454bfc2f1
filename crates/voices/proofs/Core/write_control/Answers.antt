use mathlib.Core.Path.{◌∙◌}
use Rattle.voices.specs.Writes.{write_channel_control, write_channel_control_queues}
use Rattle.voices.proofs.Chosen.{lent, write-out, queues-out}
use Rattle.voices.proofs.Core.write_control.Goals as goal

pub returns-clause-result : goal.returns-clause-result
returns-clause-result c =
    let a = c.args in
    let n = c.if-queues-ne-QUEUE_BUFFER.false in (write-out a.self a.ch a.version a.offset a.value c.if-ch-lt-NUM_CHANNELS.false ∙ lent a.queues.now (write_channel_control a.version a.self a.ch a.offset a.value) a.self n)

pub returns-clause-queues : goal.returns-clause-queues
returns-clause-queues c =
    let a = c.args in
    let n = c.if-queues-ne-QUEUE_BUFFER.false in (queues-out a.self a.ch a.version a.offset a.value a.queues.now c.if-ch-lt-NUM_CHANNELS.false ∙ lent a.queues.now (write_channel_control_queues a.version a.self a.queues.now a.ch a.offset a.value) a.queues.now n)
