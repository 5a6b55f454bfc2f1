use mathlib.Core.List.{[]}
use Prim.Native.Nat.{◌-◌}
use lib.ListN.{length}
use Rattle.timed_log.specs.Unrolls.{reach, unroll_from}
use Rattle.timed_log.proofs.Reaching.{Unrolling}
use Rattle.timed_log.proofs.Clockwork.unroll.Given as goal

abbrev pub invariant-loop-due : goal.invariant-loop-due
invariant-loop-due l =
    Unrolling l.input (unroll_from (length l.initial.text.buffer.now) l.input (reach l.initial.clock l.number l.from [])) l.clock l.line l.place l.initial.text l.text

abbrev pub decreases-loop-due : goal.decreases-loop-due
decreases-loop-due l =
    length l.initial.text.buffer.now - l.text.at
