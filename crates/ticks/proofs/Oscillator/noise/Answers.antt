use mathlib.Core.Path.{◌∙◌}
use Rattle.ticks.specs.Noise.{noise_tick}
use Rattle.ticks.proofs.Oscillator.noise.Goals as goal

pub returns : goal.returns
unfolding noise_tick
returns c = c.finish.ensures ∙ rw (c.noise_value.ensures, c.shift-o.ensures)
