use mathlib.Core.Path.{◌∙◌}
use Rattle.voices.proofs.Listed.{none-stored, byte-in, byte-out}
use Rattle.voices.proofs.Core.after_ram_writes.Goals as goal
use Rattle.voices.proofs.Core.after_ram_writes.Goals.{then-address-ram, else-address-ram}

pub loop-address-init : goal.loop-address-init
loop-address-init c = none-stored c.args.ram c.args.addresses.now c.args.self

pub loop-address-preserved : goal.loop-address-preserved
loop-address-preserved c =
    let l = c.loop-address in
    let a = c.args in
    let x = c.if-address-ram.core in
    elim c.if-address-ram.branch [
      | then-address-ram w ↦ byte-in a.ram a.addresses.now a.self l.address-index l.core x l.invariant w.if-address-ram.true (w.core-is ∙ w.forget.ensures)
      | else-address-ram w ↦ byte-out a.ram a.addresses.now a.self l.address-index l.core x l.invariant w.if-address-ram.false w.core-is
    ]
