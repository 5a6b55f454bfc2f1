use mathlib.Core.Path.{◌∙◌}
use Rattle.voices.proofs.Chosen.{control-in, control-out}
use Rattle.voices.proofs.Core.read_control.Goals as goal

pub returns-then-ch-lt-NUM_CHANNELS : goal.returns-then-ch-lt-NUM_CHANNELS
returns-then-ch-lt-NUM_CHANNELS c =
    let a = c.args in
    c.read_control.ensures ∙ control-in a.self a.ch a.version a.offset c.if-ch-lt-NUM_CHANNELS.true

pub returns : goal.returns
returns c = let a = c.args in control-out a.self a.ch a.version a.offset c.if-ch-lt-NUM_CHANNELS.false
