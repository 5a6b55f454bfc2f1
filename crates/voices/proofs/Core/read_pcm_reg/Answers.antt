use mathlib.Core.Path.{◌∙◌}
use Rattle.voices.proofs.Chosen.{pcm-in, pcm-out}
use Rattle.voices.proofs.Core.read_pcm_reg.Goals as goal

pub returns-then-ch-lt-NUM_CHANNELS : goal.returns-then-ch-lt-NUM_CHANNELS
returns-then-ch-lt-NUM_CHANNELS c =
    let a = c.args in
    c.read.ensures ∙ pcm-in a.self a.ch a.offset c.if-ch-lt-NUM_CHANNELS.true

pub returns : goal.returns
returns c = let a = c.args in pcm-out a.self a.ch a.offset c.if-ch-lt-NUM_CHANNELS.false
