use mathlib.Core.Path.{ap₂, ◌∙◌}
use Prim.Native.Nat.{ℕ}
use Rattle.voices.specs.Writes.{write_block, write_block_queues, write_register, write_register_queues}
use Rattle.voices.proofs.Chosen.{lent, register-low, register-block, register-above, register-queues-low, register-queues-block, register-queues-above}
use Rattle.voices.proofs.Core.write_register.Goals as goal

pub returns-then-address-lt2048-clause-result : goal.returns-then-address-lt2048-clause-result
returns-then-address-lt2048-clause-result c =
    let a = c.args in
    let n = c.if-queues-ne-QUEUE_BUFFER.false in
    let h = c.if-address-lt2048.true in (c.write_wavetable.ensures ∙ register-low a.version a.self a.address a.value h ∙ lent a.queues.now (write_register a.version a.self a.address a.value) a.self n)

pub returns-then-address-lt2048-clause-queues : goal.returns-then-address-lt2048-clause-queues
returns-then-address-lt2048-clause-queues c =
    let a = c.args in
    let n = c.if-queues-ne-QUEUE_BUFFER.false in
    let h = c.if-address-lt2048.true in (register-queues-low a.version a.self a.address a.value a.queues.now h ∙ lent a.queues.now (write_register_queues a.version a.self a.queues.now a.address a.value) a.queues.now n)

pub returns-then-address-lt2304-clause-result : goal.returns-then-address-lt2304-clause-result
returns-then-address-lt2304-clause-result c =
    let a = c.args in
    let n = c.if-queues-ne-QUEUE_BUFFER.false in
    let g = c.if-address-lt2048.false in
    let h = c.if-address-lt2304.true in
    let ch = c.channel_of-ch.ensures.0 in
    let offset = c.offset_of-offset.ensures in (c.write_block.ensures.0 ∙ ap₂ (λ (x y : ℕ). write_block a.version a.self x y a.value) ch offset ∙ register-block a.version a.self a.address a.value g h ∙ lent a.queues.now (write_register a.version a.self a.address a.value) a.self n)

pub returns-then-address-lt2304-clause-queues : goal.returns-then-address-lt2304-clause-queues
returns-then-address-lt2304-clause-queues c =
    let a = c.args in
    let n = c.if-queues-ne-QUEUE_BUFFER.false in
    let g = c.if-address-lt2048.false in
    let h = c.if-address-lt2304.true in
    let ch = c.channel_of-ch.ensures.0 in
    let offset = c.offset_of-offset.ensures in (c.write_block.ensures.1 ∙ ap₂ (λ (x y : ℕ). write_block_queues a.version a.self a.queues.now x y a.value) ch offset ∙ register-queues-block a.version a.self a.address a.value a.queues.now g h ∙ lent a.queues.now (write_register_queues a.version a.self a.queues.now a.address a.value) a.queues.now n)

pub returns-clause-result : goal.returns-clause-result
returns-clause-result c =
    let a = c.args in
    let n = c.if-queues-ne-QUEUE_BUFFER.false in
    let g = c.if-address-lt2048.false in (register-above a.version a.self a.address a.value g c.if-address-lt2304.false ∙ lent a.queues.now (write_register a.version a.self a.address a.value) a.self n)

pub returns-clause-queues : goal.returns-clause-queues
returns-clause-queues c =
    let a = c.args in
    let n = c.if-queues-ne-QUEUE_BUFFER.false in
    let g = c.if-address-lt2048.false in (register-queues-above a.version a.self a.address a.value a.queues.now g c.if-address-lt2304.false ∙ lent a.queues.now (write_register_queues a.version a.self a.queues.now a.address a.value) a.queues.now n)
