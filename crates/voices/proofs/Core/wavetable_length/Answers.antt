use mathlib.Core.Path.{sym, ap, ◌∙◌}
use Prim.Native.Nat.{ℕ, ◌+◌}
use Rattle.voices.proofs.Chosen.{length-in, length_none, length-out}
use Rattle.voices.proofs.Core.wavetable_length.Goals as goal

pub returns-then-ch-lt-NUM_CHANNELS : goal.returns-then-ch-lt-NUM_CHANNELS
returns-then-ch-lt-NUM_CHANNELS c =
    let a = c.args in
    ap (λ (x : ℕ). x + 1) c.wavetable_mask.ensures ∙ length-in a.self a.ch a.version c.if-ch-lt-NUM_CHANNELS.true

pub returns-then-has_sample_control : goal.returns-then-has_sample_control
returns-then-has_sample_control c =
    let a = c.args in
    length_none a.self a.ch a.version c.if-ch-lt-NUM_CHANNELS.false (sym c.has_sample_control.ensures ∙ c.if-has_sample_control.true)

pub returns : goal.returns
returns c =
    let a = c.args in
    length-out a.self a.ch a.version c.if-ch-lt-NUM_CHANNELS.false (sym c.has_sample_control.ensures ∙ c.if-has_sample_control.false)
