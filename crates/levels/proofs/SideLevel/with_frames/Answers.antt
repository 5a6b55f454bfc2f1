use borrow.Author.Rules.{rules}
use Rattle.std.proofs.Common.{◌≡◌, get_or, pos, arith, length, true, false, w32, SFits}
use Rattle.levels.specs.Levels.{with_frames}
use Rattle.levels.proofs.Sums.{sum-none, sum-next}
use Rattle.num.proofs.Integers.{back}
use Rattle.levels.proofs.SideLevel.with_frames.Goals as goal

pub loop-x-init : goal.loop-x-init
loop-x-init c = (sum-none _ _ _, sum-none _ _ _)

pub loop-x-preserved : goal.loop-x-preserved
loop-x-preserved c =
    let z : SFits w32 (get_or c.args.side.now c.loop-x.x-index (pos 0)) = search rules in (
      sum-next false _ _ _ _ _ c.args.side.now (rw (back w32 _ z) at c.square-squares.ensures) c.loop-x.invariant.0 (search rules),
      sum-next true _ _ _ _ _ c.args.side.now (rw (back w32 _ z) at c.over-overs.ensures) c.loop-x.invariant.1 (search rules),
    )

pub returns : goal.returns
unfolding with_frames
returns c =
    let n : c.loop-x.x-index ≡ length c.args.side.now = omega arith in
    rw (c.peak.ensures, c.loop-x.invariant.0, c.loop-x.invariant.1, n)
