use Rattle.std.proofs.Common.{◌≡◌, sym, ap, ◌∙◌, to_z-of_z}
use Rattle.voice.specs.Kinds.{sample_of}
use borrow.Author.Rules.{sfits_of}
use Rattle.voice.proofs.Tests.{first-arm, second-arm}
use Rattle.registers.specs.Queue.{pushed, pushed_entries}
use Rattle.voice.specs.Channel.{set_fifo}
use Rattle.voice.specs.Writes.{sample_written, sample_entries}
use Rattle.voice.proofs.Channel.write_sample.Goals as goal

pub returns-then-has_3ws8pna : goal.returns-then-has_3ws8pna
unfolding sample_written sample_entries
returns-then-has_3ws8pna c =
    let a = c.args in
    let on = sym c.has_3ws8pna.ensures ∙ c.if-has_3ws8pna.true in
    let sample = c.sample_of in
    let entries : c.push-h.new.queue ≡ pushed_entries a.self.fifo a.queue.now sample.result = rw (to_z-of_z (sfits_of sample.type_inv)) at c.push-h.ensures.1 in (
      ap (set_fifo a.self) c.push-h.ensures.0 ∙ first-arm _ (set_fifo a.self (pushed a.self.fifo)) a.self on,
      entries ∙ ap (pushed_entries a.self.fifo a.queue.now) sample.ensures ∙ first-arm _ (pushed_entries a.self.fifo a.queue.now (sample_of a.self.fifo.latch a.value)) a.queue.now on,
    )

pub returns-else-has_3ws8pna : goal.returns-else-has_3ws8pna
unfolding sample_written sample_entries
returns-else-has_3ws8pna c =
    let a = c.args in
    let off = sym c.has_3ws8pna.ensures ∙ c.if-has_3ws8pna.false in (
      second-arm _ (set_fifo a.self (pushed a.self.fifo)) a.self off,
      second-arm _ (pushed_entries a.self.fifo a.queue.now (sample_of a.self.fifo.latch a.value)) a.queue.now off,
    )
