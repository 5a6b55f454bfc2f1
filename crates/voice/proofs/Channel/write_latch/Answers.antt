use Rattle.std.proofs.Common.{sym, ◌∙◌}
use Rattle.voice.proofs.Tests.{first-arm, second-arm}
use Rattle.registers.specs.Queue.{set_latch}
use Rattle.voice.specs.Channel.{set_fifo}
use Rattle.voice.specs.Writes.{latch_written}
use Rattle.voice.proofs.Channel.write_latch.Goals as goal

pub returns-then-has_3ws8pna : goal.returns-then-has_3ws8pna
unfolding latch_written
returns-then-has_3ws8pna c = let a = c.args in first-arm _ (set_fifo a.self (set_latch a.self.fifo a.value)) a.self (sym c.has_3ws8pna.ensures ∙ c.if-has_3ws8pna.true)

pub returns-else-has_3ws8pna : goal.returns-else-has_3ws8pna
unfolding latch_written
returns-else-has_3ws8pna c = let a = c.args in second-arm _ (set_fifo a.self (set_latch a.self.fifo a.value)) a.self (sym c.has_3ws8pna.ensures ∙ c.if-has_3ws8pna.false)
