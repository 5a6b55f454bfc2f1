use Rattle.std.proofs.Common.{◌/◌}
use lib.Bits.{and_mask}
use Rattle.adpcm.specs.Ima.{difference}
use Rattle.adpcm.proofs.difference.Goals as goal

pub returns : goal.returns
unfolding difference
returns c = rw (and_mask (c.args.code / 4) 1, and_mask (c.args.code / 2) 1, and_mask c.args.code 1)
