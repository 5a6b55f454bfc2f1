use mathlib.Core.Path.{◌∙◌}
use mir.Syntax.{w16}
use Rattle.num.proofs.Integers.{back}
use Rattle.ticks.proofs.Waves.{wavetable-is}
use Rattle.ticks.proofs.Oscillator.wavetable_by.Goals as goal
use Rattle.ticks.proofs.Oscillator.wavetable_by.Goals.{then-is_synced, else-is_synced}

pub returns : goal.returns
returns c =
    let a = c.args in
    rw (back w16 _ (record { sfits = c.centred.type_inv }))
    (wavetable-is a.s a.wavetables.now a.base a.t a.self _ _ _ _ _ _ c.requires.1 c.stepped-phase.ensures c.wave_place-index.ensures
    c.wave_tap-tap.ensures c.shaped-q8.ensures
    (elim c.if-is_synced.branch [
      | then-is_synced w ↦ w.self-is ∙ rw (← c.is_synced.ensures, w.if-is_synced.true)
      | else-is_synced w ↦ w.self-is ∙ rw (← c.is_synced.ensures, w.if-is_synced.false)
    ])
    c.centred.ensures)
