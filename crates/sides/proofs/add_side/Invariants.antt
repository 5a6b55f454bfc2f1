use mathlib.Core.Path.{◌≡◌}
use lib.ListN.{length}
use Rattle.sides.specs.Sides.{added, StemRoom}
use Rattle.sides.proofs.add_side.Given as goal

abbrev pub invariant-loop-i : goal.invariant-loop-i
invariant-loop-i g l =
    let m = g.T.SideNumber in
    (l.side ≡ added m.silent m.plus l.i l.stems l.others l.hand l.first l.initial.side) × StemRoom l.count l.hand l.first (length l.stems) (length l.initial.side)
