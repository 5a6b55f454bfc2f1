use mathlib.Core.Path.{ap₂, ◌∙◌}
use mathlib.Core.Bool.{Bool}
use Rattle.voice.specs.declared.Channel.{Channel}
use Rattle.voices.specs.Core.{stored_channel}
use Rattle.voices.proofs.Listed.{block-stored, block-queues}
use Rattle.voices.proofs.Core.write_block.Goals as goal

pub returns : goal.returns
returns c =
    let a = c.args in
    let w = c.write_at-d in (
      c.stored.ensures ∙ ap₂ (λ (x : Channel) (t : Bool). stored_channel a.self a.ch x t) w.ensures.0 c.empties.ensures ∙ block-stored a.version a.self a.ch a.offset a.value c.requires.0,
      block-queues a.version a.self a.ch a.offset a.value c.requires.0 a.queues.now w.new.queue c.requires.1 w.ensures.1,
    )
