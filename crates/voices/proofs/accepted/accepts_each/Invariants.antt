use mathlib.Core.Path.{◌≡◌}
use mathlib.Core.Bool.{true}
use Rattle.voices.specs.Accepted.{accepts_first}
use Rattle.voices.proofs.accepted.accepts_each.Given as goal

abbrev pub invariant-loop-c : goal.invariant-loop-c
invariant-loop-c l = accepts_first l.c-index l.fn.channels l.fn.version l.fn.length ≡ true
