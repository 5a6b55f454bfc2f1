use mathlib.Core.Path.{◌≡◌}
use Prim.Native.Nat.{◌≤◌, ◌+◌, ◌*◌}
use lib.ListN.{length}
use Rattle.sqv4.proofs.Runs.{placed, last}
use Rattle.sqv4.proofs.fragment.decode_codes.Given as goal

abbrev pub invariant-loop-i : goal.invariant-loop-i
invariant-loop-i l =
    (l.at ≤ l.initial.at + 2 * l.i) × (length l.out ≡ length l.initial.out)
    × (placed l.version l.variant l.volume l.payload l.out l.at l.step l.state l.i l.count ≡ placed l.version l.variant l.volume l.payload l.initial.out l.initial.at l.step l.initial.state 0 l.count)
    × (last l.version l.variant l.volume l.payload l.state l.i l.count ≡ last l.version l.variant l.volume l.payload l.initial.state 0 l.count)
