use mathlib.Core.Path.{sym, ◌∙◌}
use Rattle.ticks.specs.Oscillators.{no_target}
use Rattle.ticks.proofs.Waves.{alone_at}
use Rattle.ticks.proofs.Oscillator.wavetable_alone.Goals as goal

pub returns : goal.returns
returns c =
    let a = c.args in
    c.finish.ensures ∙ rw (c.wave_tap-tap.ensures, c.wave_index-index.ensures, c.whole.ensures.result, c.stepped-phase.ensures)
    (sym (alone_at a.s a.wavetables.now a.base no_target a.self c.requires.1 _))
