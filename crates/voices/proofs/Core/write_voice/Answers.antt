use mathlib.Core.Path.{ap₂, ◌∙◌}
use mathlib.Core.Bool.{Bool}
use Rattle.voice.specs.declared.Channel.{Channel}
use Rattle.voices.specs.Core.{stored_channel}
use Rattle.voices.proofs.Chosen.{write-in}
use Rattle.voices.proofs.Storing.{voice-queues}
use Rattle.voices.proofs.Core.write_voice.Goals as goal

pub returns : goal.returns
returns c =
    let a = c.args in
    let w = c.write_control-d in (
      c.stored.ensures ∙ ap₂ (λ (x : Channel) (t : Bool). stored_channel a.self a.ch x t) w.ensures.0 c.control_write_invalidates.ensures ∙ write-in a.self a.ch a.version a.offset a.value c.requires.0,
      voice-queues a.version a.self a.queues.now w.new.queue a.ch a.offset a.value c.requires.0 c.requires.1 w.ensures.1,
    )
