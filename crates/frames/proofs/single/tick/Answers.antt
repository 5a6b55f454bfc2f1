use Rattle.std.proofs.Common.{◌≡◌, ℕ, ◌+◌, ◌-◌, ◌*◌, take, drop, ap, ◌∙◌, arith, rules, w16, SFits}
use Rattle.sizes.specs.Sizes.{fifo_capacity}
use Rattle.num.proofs.Integers.{back}
use Rattle.voices.specs.Core.{set_channel, set_fragments}
use Rattle.frames.proofs.OneVoice.{single, no-single}
use Rattle.frames.proofs.single.tick.Goals as goal

pub returns-then-queues-ne-QUEUE_BUFFER-clause-result : goal.returns-then-queues-ne-QUEUE_BUFFER-clause-result
returns-then-queues-ne-QUEUE_BUFFER-clause-result c =
    let a = c.args in
    (no-single a.version a.ram.now a.queues.now a.core a.ch c.if-queues-ne-QUEUE_BUFFER.true)

pub returns-clause-result : goal.returns-clause-result
returns-clause-result c =
    let a = c.args in
    let tick = c.tick-r in
    let at = c.channel-at in
    let from = at.result * fifo_capacity in
    let k : from + fifo_capacity - from ≡ fifo_capacity = omega arith in
    let f : SFits w16 tick.result.sides.sample = search rules in ((λ i. record { core = set_fragments (set_channel a.core at.result tick.result.channel) tick.new.fragments; sample = back w16 _ f i })
    ∙ single a.version a.ram.now a.queues.now a.core a.ch at.result at.ensures.0 c.target_channel-a.result c.target-t.result _ _ tick.result c.if-queues-ne-QUEUE_BUFFER.false (ap (λ (n : ℕ). take n (drop from a.queues.now)) k) c.target_channel-a.ensures.0 c.target-t.ensures tick.ensures.fragments_after)
