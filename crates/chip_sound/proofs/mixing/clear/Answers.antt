use Rattle.chip_sound.proofs.Mixes.{cleared-is}
use Rattle.chip_sound.proofs.mixing.clear.Goals as goal

pub returns : goal.returns
returns c = cleared-is c.args.n c.min-end.result c.args.side.now c.clear.new.samples c.min-end.ensures c.clear.ensures
