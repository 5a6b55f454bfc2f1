use mathlib.Core.Path.{◌≡◌}
use Rattle.voices.specs.Lists.{after_ram_writes}
use Rattle.voices.proofs.Core.after_ram_writes.Given as goal

abbrev pub invariant-loop-address : goal.invariant-loop-address
invariant-loop-address l = l.core ≡ after_ram_writes l.ram l.address-index l.addresses l.initial.core
