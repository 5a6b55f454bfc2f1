use mathlib.Core.Path.{◌≡◌}
use Prim.Native.Nat.{◌+◌, ◌*◌}
use Rattle.sqv4.proofs.Checks.{rest}
use Rattle.sqv4.proofs.check.faults.Given as goal

abbrev pub invariant-loop-position : goal.invariant-loop-position
invariant-loop-position l = (l.at ≡ 16 + l.position * l.header.frame_size) × (rest l.file l.header l.position ≡ rest l.file l.header 0)
