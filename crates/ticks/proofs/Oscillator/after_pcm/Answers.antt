use mir.Syntax.{w16}
use Rattle.num.proofs.Integers.{back}
use Rattle.ticks.specs.Pcm.{after_pcm}
use Rattle.ticks.proofs.Oscillator.after_pcm.Goals as goal

pub returns-then-pcm_is_over : goal.returns-then-pcm_is_over
unfolding after_pcm
returns-then-pcm_is_over c = rw (← c.pcm_is_over.ensures, c.if-pcm_is_over.true, (c.pcm_phase_after.ensures))

pub returns-else-pcm_is_over : goal.returns-else-pcm_is_over
unfolding after_pcm
returns-else-pcm_is_over c = rw (back w16 _ c.ranges.q8, ← c.pcm_is_over.ensures, c.if-pcm_is_over.false, (c.pcm_phase_after.ensures))
