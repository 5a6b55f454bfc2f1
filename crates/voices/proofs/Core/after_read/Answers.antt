use mathlib.Core.Path.{ap, ◌∙◌}
use lib.Dec.{eqb}
use Rattle.voice.specs.declared.Channel.{Channel}
use Rattle.voices.specs.Core.{stored_channel}
use Rattle.voices.proofs.Chosen.{read-in, read_out}
use Rattle.voices.proofs.Core.after_read.Goals as goal

pub returns-then-ch-lt-NUM_CHANNELS : goal.returns-then-ch-lt-NUM_CHANNELS
returns-then-ch-lt-NUM_CHANNELS c =
    let a = c.args in
    c.stored.ensures ∙ ap (λ (x : Channel). stored_channel a.self a.ch x (eqb a.offset 10)) c.after_read-d.ensures ∙ read-in a.self a.ch a.offset c.if-ch-lt-NUM_CHANNELS.true

pub returns : goal.returns
returns c = let a = c.args in read_out a.self a.ch a.offset c.if-ch-lt-NUM_CHANNELS.false
