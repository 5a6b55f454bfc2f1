use Rattle.std.proofs.Common.{ap, to_z, w32}
use Rattle.tone.specs.Mix.{wrapping_add}
use Rattle.tone.proofs.Wrapping.{sum-wraps}
use Rattle.tone.proofs.mix.wrapping_add.Goals as goal

pub returns : goal.returns
unfolding wrapping_add
returns c = ap (to_z w32) (sum-wraps c.args.a c.args.b c.ranges.a c.ranges.b)
