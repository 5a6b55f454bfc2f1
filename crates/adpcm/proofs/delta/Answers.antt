use Rattle.std.proofs.Common.{to_z-of_z}
use borrow.Author.Rules.{sfits_of}
use Rattle.adpcm.specs.Codes.{delta_of}
use Rattle.adpcm.proofs.delta.Goals as goal

pub returns : goal.returns
unfolding delta_of
returns c = rw (to_z-of_z (sfits_of c.delta_at.type_inv)) (rw c.step_size.ensures.0 at c.delta_at.ensures.0, c.delta_at.ensures.1)
