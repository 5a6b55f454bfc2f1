use mathlib.Core.Path.{◌≡◌}
use Prim.Native.Nat.{◌+◌}
use lib.ListN.{length, take}
use Rattle.line_fields.specs.Text.{parts_text}
use Rattle.line_fields.proofs.writing.fits.Given as goal

abbrev pub invariant-loop-k : goal.invariant-loop-k
invariant-loop-k l = l.left + length (parts_text 0 (take l.k l.numbers)) ≡ l.room
