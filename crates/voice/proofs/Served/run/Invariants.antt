use Rattle.std.proofs.Common.{◌≡◌, ◌-◌, ◌≤◌}
use Rattle.voice.specs.Serving.{served_ticks}
use Rattle.voice.proofs.Served.run.Given as goal

abbrev pub invariant-loop-k : goal.invariant-loop-k
invariant-loop-k l = (l.v ≡ served_ticks l.k l.w l.samples l.base l.p l.g.volume l.g.panpot l.initial.v) × (l.k ≤ l.n)

abbrev pub decreases-loop-k : goal.decreases-loop-k
decreases-loop-k l = l.n - l.k
