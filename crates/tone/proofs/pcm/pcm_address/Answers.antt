use Rattle.std.proofs.Common.{refl}
use Rattle.tone.specs.Pcm.{pcm_address}
use Rattle.tone.proofs.pcm.pcm_address.Goals as goal

pub returns-clause-result : goal.returns-clause-result
unfolding pcm_address
returns-clause-result c = let a = c.args in
    rw (c.mask_of.ensures) (refl)
