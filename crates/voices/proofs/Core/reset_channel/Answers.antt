use mathlib.Core.Path.{◌∙◌}
use Rattle.voices.proofs.Storing.{voice-reset}
use Rattle.voices.proofs.Chosen.{reset-in, reset-out}
use Rattle.voices.proofs.Core.reset_channel.Goals as goal

pub returns-then-ch-lt-NUM_CHANNELS : goal.returns-then-ch-lt-NUM_CHANNELS
returns-then-ch-lt-NUM_CHANNELS c =
    let a = c.args in
    voice-reset a.self a.ch c.reset.result c.stored.result c.reset_wavetable.result c.reset.ensures c.stored.ensures c.reset_wavetable.ensures ∙ reset-in a.self a.ch c.if-ch-lt-NUM_CHANNELS.true

pub returns : goal.returns
returns c = let a = c.args in reset-out a.self a.ch c.if-ch-lt-NUM_CHANNELS.false
