use mathlib.Core.Path.{◌≡◌}
use Prim.Native.Nat.{◌-◌, ◌≤◌}
use lib.ListN.{length, drop}
use Rattle.version.specs.Spaces.{trim_start, trim_start_in}
use Rattle.version.proofs.spaces.text_start.Given as goal

abbrev pub invariant-loop-turn : goal.invariant-loop-turn
invariant-loop-turn l = (l.rest ≤ length l.s) × (trim_start_in (length l.s - l._turn) (drop (length l.s - l.rest) l.s) ≡ trim_start l.s)
