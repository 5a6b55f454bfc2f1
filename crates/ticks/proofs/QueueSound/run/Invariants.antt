use mathlib.Core.Path.{◌≡◌}
use Prim.Native.Nat.{◌-◌, ◌≤◌}
use Rattle.ticks.specs.Mix.{Adds}
use Rattle.ticks.specs.Queues.{queue_ticks}
use Rattle.ticks.proofs.QueueSound.run.Given as goal

abbrev pub invariant-loop-k : goal.invariant-loop-k
invariant-loop-k l = (l.v ≡ queue_ticks l.k l.g.frequency l.g.panpot l.initial.queue l.initial.v) × Adds l.k l.initial.v.sides l.v.sides × (l.k ≤ l.n) × (l.queue ≡ l.initial.queue)

abbrev pub decreases-loop-k : goal.decreases-loop-k
decreases-loop-k l = l.n - l.k
