use Rattle.std.proofs.Common.{refl}
use Rattle.adpcm.specs.Ima.{step_sizes, step_size}
use Rattle.adpcm.proofs.Tables.{step-lt}
use Rattle.adpcm.proofs.step_size.Goals as goal

pub returns : goal.returns
unfolding step_sizes step_size
returns c = rw c.min.ensures (refl, step-lt c.args.index)
