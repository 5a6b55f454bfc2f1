use mathlib.Core.Path.{ap₂, ◌∙◌}
use mathlib.Core.Bool.{Bool}
use Rattle.voice.specs.declared.Channel.{Channel}
use Rattle.voices.specs.Core.{stored_channel}
use Rattle.voices.proofs.Chosen.{write-pcm-in, write-pcm-out}
use Rattle.voices.proofs.Core.write_pcm_reg.Goals as goal

pub returns-then-ch-lt-NUM_CHANNELS : goal.returns-then-ch-lt-NUM_CHANNELS
returns-then-ch-lt-NUM_CHANNELS c =
    let a = c.args in
    c.stored.ensures ∙ ap₂ (λ (x : Channel) (t : Bool). stored_channel a.self a.ch x t) c.write_pcm_reg-d.ensures c.pcm_write_invalidates.ensures ∙ write-pcm-in a.self a.ch a.offset a.value c.if-ch-lt-NUM_CHANNELS.true

pub returns : goal.returns
returns c = let a = c.args in write-pcm-out a.self a.ch a.offset a.value c.if-ch-lt-NUM_CHANNELS.false
