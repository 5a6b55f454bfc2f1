use Prim.Native.Nat.{◌≤◌, ◌<◌}
use mathlib.Core.List.{map}
use mir.Syntax.{w16}
use mir.Val.{of_z}
use Rattle.sizes.specs.Sizes.{fifo_capacity}
use Rattle.registers.specs.Queue.{queued}
use Rattle.session_lines.proofs.Storing.{Storing}
use Rattle.session_lines.proofs.writing.put_queue.Given as goal

abbrev pub invariant-loop-i : goal.invariant-loop-i
invariant-loop-i l = (l.i ≤ l.count) × (l.count ≤ fifo_capacity) × (l.head < fifo_capacity) × Storing l.initial.numbers l.numbers 282 (map (of_z w16) (queued l.queue l.head l.count)) l.i
