-- The end of a tick: the value slewed, and about its centre.
use Rattle.std.specs.Prelude.{Bool, cond, ℕ, eqb}
use Rattle.tone.specs.Phase.{whole, phase_offset, moved}
use Rattle.tone.specs.Shape.{slew, slewed, centred}
use Rattle.ticks.specs.Oscillators.{set_slew}
use Rattle.ticks.specs.declared.Oscillator.{Oscillator}
use Rattle.ticks.specs.declared.Target.{Target}
use Rattle.ticks.specs.declared.Setting.{Setting}
use Rattle.ticks.specs.declared.Ticked.{Ticked}

-- the slew register after a value
abbrev pub slew_after : Setting → Oscillator → ℕ → ℕ
slew_after s o q8 = slew s.modulation o.slew_current q8 s.param_1

unfoldable pub finished : Setting → Oscillator → ℕ → Bool → Ticked
finished s o q8 interpolate = record {
  oscillator = set_slew o (slew_after s o q8);
  q8 = centred (slewed s.modulation (slew_after s o q8) q8) interpolate;
}

-- the position of a phase, moved by the target's sample under modulation 1
abbrev pub position_of : Setting → Target → ℕ → ℕ
position_of s t phase =
    cond (eqb s.modulation 1) (moved (whole phase) (phase_offset s.param_1 t.last_sample)) (whole phase)
