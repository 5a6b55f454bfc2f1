use Rattle.std.proofs.Common.{◌≡◌, ◌-◌, ◌≤◌, length}
use Rattle.voice.specs.Streaming.{lent, stream_ticks}
use Rattle.voice.proofs.StreamSound.run.Given as goal

abbrev pub invariant-loop-k : goal.invariant-loop-k
invariant-loop-k l = (lent l.v l.samples ≡ stream_ticks l.k l.ram l.p l.g.volume l.g.panpot (lent l.initial.v l.initial.samples)) × (length l.samples ≡ length l.initial.samples) × (l.k ≤ l.n)

abbrev pub decreases-loop-k : goal.decreases-loop-k
decreases-loop-k l = l.n - l.k
