use mathlib.Core.Path.{◌≡◌}
use Prim.Native.Nat.{◌-◌}
use native.Mathlib.Omega.{arith}
use mir.Syntax.{w8}
use Rattle.num.proofs.Integers.{back}
use Rattle.notes.proofs.Entries.{nearest}
use Rattle.notes.proofs.Outside.{lowest, highest}
use Rattle.notes.proofs.frequency.Goals as goal

pub returns-in_default : goal.returns-in_default
returns-in_default c = rw (← (rw (back w8 _ c.ranges.semitones) at c.sum_at.ensures)) (lowest c.sum_at.result (omega arith))

pub returns-then-place-ge-KEPT : goal.returns-then-place-ge-KEPT
returns-then-place-ge-KEPT c = rw (← (rw (back w8 _ c.ranges.semitones) at c.sum_at.ensures)) (highest c.sum_at.result (omega arith))

pub returns : goal.returns
returns c =
    let at = c.sum_at.result in
    let place : c.in-Some.place ≡ at - 80 = omega arith in
    rw (place, ← (rw (back w8 _ c.ranges.semitones) at c.sum_at.ensures)) (nearest 80 c.frequencies-kept.result c.frequencies-kept.ensures at (omega arith) (omega arith))
