use mathlib.Core.Path.{◌≡◌}
use Prim.Native.Nat.{◌-◌, ◌≤◌}
use lib.ListN.{length, take}
use Rattle.version.specs.Spaces.{trim_end, trim_end_in}
use Rattle.version.proofs.spaces.text_end.Given as goal

abbrev pub invariant-loop-turn : goal.invariant-loop-turn
invariant-loop-turn l = (l.rest ≤ length l.s) × (trim_end_in (length l.s - l._turn) (take l.rest l.s) ≡ trim_end l.s)
