use Rattle.levels.specs.Levels.{sum_with}
use Rattle.std.proofs.Common.{◌≡◌, true, false}
use Rattle.levels.proofs.SideLevel.with_frames.Given as goal

abbrev pub invariant-loop-x : goal.invariant-loop-x
invariant-loop-x l = (l.squares ≡ sum_with false l.self.squares l.side l.x-index) × (l.overs ≡ sum_with true l.self.overs l.side l.x-index)
