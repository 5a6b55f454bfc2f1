use Rattle.std.proofs.Common.{◌≡◌, ℕ, ◌∙◌, eq-eqb, ne_eqb}
use Rattle.voice.specs.Reads.{after_read}
use Rattle.stream.specs.Cache.{emptied}
use Rattle.ticks.specs.Oscillators.{set_phase}
use Rattle.voice.specs.Channel.{set_oscillator, set_stream}
use Rattle.voice.specs.declared.Channel.{Channel}
use Rattle.voice.proofs.Channel.after_read.Goals as goal

cleared : (c : Channel) (o : ℕ) → o ≡ 10 → set_stream (set_oscillator c (set_phase c.oscillator 0)) emptied ≡ after_read c o
unfolding after_read
cleared c o e = simp (eq-eqb _ _ e)

pub returns-then-offset-eq10 : goal.returns-then-offset-eq10
returns-then-offset-eq10 c = c.invalidate_sqv4.ensures ∙ cleared c.args.self c.args.offset c.if-offset-eq10.true

pub returns : goal.returns
unfolding after_read
returns c = simp (ne_eqb _ _ c.if-offset-eq10.false)
