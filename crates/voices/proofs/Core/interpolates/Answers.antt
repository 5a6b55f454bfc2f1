use mathlib.Core.Path.{sym, ◌∙◌}
use Rattle.voices.proofs.Chosen.{interpolates-in, interpolates-none, interpolates-out}
use Rattle.voices.proofs.Core.interpolates.Goals as goal

pub returns-then-ch-lt-NUM_CHANNELS : goal.returns-then-ch-lt-NUM_CHANNELS
returns-then-ch-lt-NUM_CHANNELS c =
    let a = c.args in
    c.interpolates.ensures ∙ interpolates-in a.self a.ch a.version c.if-ch-lt-NUM_CHANNELS.true

pub returns-then-has_sample_control : goal.returns-then-has_sample_control
returns-then-has_sample_control c =
    let a = c.args in
    interpolates-none a.self a.ch a.version c.if-ch-lt-NUM_CHANNELS.false (sym c.has_sample_control.ensures ∙ c.if-has_sample_control.true)

pub returns : goal.returns
returns c =
    let a = c.args in
    c.has_3ws8pna.ensures ∙ interpolates-out a.self a.ch a.version c.if-ch-lt-NUM_CHANNELS.false (sym c.has_sample_control.ensures ∙ c.if-has_sample_control.false)
