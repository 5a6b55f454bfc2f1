use mathlib.Core.Path.{◌≡◌}
use Prim.Native.Nat.{◌≤◌}
use lib.ListN.{length}
use Rattle.log_lines.specs.Texts.{peak_of}
use Rattle.log_lines.proofs.text.peak.Given as goal

abbrev pub invariant-loop-value : goal.invariant-loop-value
invariant-loop-value l = (l.value-index ≤ length l.side) × (l.largest ≡ peak_of l.before l.side l.value-index)
