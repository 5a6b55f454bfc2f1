use mathlib.Core.Path.{◌≡◌}
use Prim.Native.Nat.{◌≤◌, min}
use lib.ListN.{length, drop}
use Rattle.wav.specs.Samples.{sides_bytes}
use Rattle.output.specs.Output.{Puts}
use Rattle.wav.proofs.samples.put_sides.Given as goal

abbrev pub invariant-loop-l : goal.invariant-loop-l
invariant-loop-l l =
    let i = length l.yielded in
    (i ≤ min (length l.left) (length l.right)) × (l.l-iterator.a.rest.now ≡ drop i l.left) × (l.l-iterator.b.rest.now ≡ drop i l.right) × Puts l.fn.out l.out (sides_bytes l.left l.right i)
