use mathlib.Core.Path.{◌≡◌}
use Prim.Native.Nat.{◌*◌, ◌≤◌, min}
use lib.ListN.{length, drop}
use Rattle.output.specs.Output.{Puts}
use Rattle.log_lines.specs.Texts.{frame_lines}
use Rattle.log_lines.proofs.text.put_frames.Given as goal

abbrev pub invariant-loop-l : goal.invariant-loop-l
invariant-loop-l l =
    let i = length l.yielded in
    (i ≤ min (length l.left) (length l.right)) × (l.l-iterator.a.rest.now ≡ drop i l.left) × (l.l-iterator.b.rest.now ≡ drop i l.right)
    × (length (frame_lines l.left l.right i) ≤ 16 * i) × Puts l.fn.out l.out (frame_lines l.left l.right i)
