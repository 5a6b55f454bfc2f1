use Rattle.std.proofs.Common.{pos, refl, w16, w32, SFits}
use lib.Signed.{quot_z}
use Rattle.num.proofs.Integers.{back}
use Rattle.num.proofs.Fit.{widen16-32, quot_fits}
use Rattle.tone.specs.Mix.{master_gain}
use Rattle.tone.proofs.mix.apply_master_gain.Goals as goal

half : (c : goal.Start) → SFits w16 (quot_z c.args.sample (pos 2))
half c = quot_fits w16 2 c.ranges.sample

eighth : (c : goal.Start) → SFits w16 (quot_z (quot_z c.args.sample (pos 2)) (pos 4))
eighth c = quot_fits w16 4 (half c)

pub returns-clause-result : goal.returns-clause-result
unfolding master_gain
returns-clause-result c = rw (back w16 _ c.ranges.sample, back w32 _ (widen16-32 c.ranges.sample), back w32 _ (widen16-32 (half c)), back w32 _ (widen16-32 (eighth c)), back w16 _ (eighth c)) (refl)
