use mathlib.Core.Path.{refl}
use Rattle.adpcm.specs.Ima.{step_sizes}
use Rattle.adpcm.proofs.step_sizes.Goals as goal

pub returns : goal.returns
unfolding step_sizes
returns c = refl
