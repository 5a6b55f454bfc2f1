use mathlib.Core.Path.{◌≡◌}
use Rattle.voices.specs.Writes.{after_ram_write_to}
use Rattle.voices.proofs.Core.forget.Given as goal

abbrev pub invariant-loop-ch : goal.invariant-loop-ch
invariant-loop-ch l = l.self ≡ after_ram_write_to l.ch l.initial.self l.address
