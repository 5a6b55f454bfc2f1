use Rattle.num.specs.Bytes.{le}
use lib.ListN.{drop}
use lib.Dec.{eqb}
use mathlib.Core.Path.{◌≡◌}
use Rattle.sqv4.proofs.check.zeros.Given as goal

abbrev pub invariant-loop-byte : goal.invariant-loop-byte
invariant-loop-byte l = eqb (le l.rest) 0 ≡ eqb (le (drop l.byte-index l.rest)) 0
