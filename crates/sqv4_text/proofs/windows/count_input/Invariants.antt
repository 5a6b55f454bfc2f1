use Rattle.std.proofs.Common.{◌≡◌, ◌-◌, ◌≤◌, length}
use Rattle.sqv4_text.proofs.windows.count_input.Given as goal

abbrev pub invariant-loop-count : goal.invariant-loop-count
invariant-loop-count l = (l.count ≤ 16842752) × (length l.window ≡ length l.initial.window)

abbrev pub decreases-loop-count : goal.decreases-loop-count
decreases-loop-count l = 16842753 - l.count
