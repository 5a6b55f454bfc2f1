-- A tick of a wavetable voice, as generate_wavetable_sample has it. The voice's bytes are those of the tables from a base on.
use Rattle.std.specs.Prelude.{Bool, false, cond, ◌&&◌, List, ℕ, ◌+◌, eqb, leb, ltb, get_or}
use Rattle.tone.specs.Phase.{fraction, stepped}
use Rattle.tone.specs.Taps.{wave_index, wave_after, raised, blend}
use Rattle.tone.specs.Shape.{ring, window}
use Rattle.ticks.specs.Oscillators.{set_phase}
use Rattle.ticks.specs.Finish.{finished, position_of}
use Rattle.ticks.specs.declared.Oscillator.{Oscillator}
use Rattle.ticks.specs.declared.Target.{Target}
use Rattle.ticks.specs.declared.Setting.{Setting}
use Rattle.ticks.specs.declared.Ticked.{Ticked}

-- modulations 1 to 4 look at a target
unfoldable pub looks_at : ℕ → Bool
looks_at modulation = leb modulation 4 && ltb 0 modulation

abbrev pub wave_place : Setting → Target → ℕ → ℕ
wave_place s t phase = wave_index (position_of s t phase) s.mask

abbrev pub wave_tap : Setting → List ℕ → ℕ → ℕ → ℕ → ℕ
wave_tap s w base index phase =
    cond s.interpolate
    (blend (get_or w (base + index) 0) (get_or w (base + wave_after index s.mask) 0) (fraction phase))
    (raised (get_or w (base + index) 0))

-- hard sync begins anew while the target is in its first cycle
abbrev pub synced : Setting → Target → Bool
synced s t = cond (eqb s.modulation 3) (ltb t.phase t.cycle) false

-- ring, hard sync and window
abbrev pub shaped : Setting → Target → ℕ → ℕ → ℕ
shaped s t first q8 =
    cond (eqb s.modulation 2) (ring q8 t.last_sample s.param_1 s.interpolate)
    (cond (synced s t) (raised first)
    (cond (eqb s.modulation 4) (window q8 t.last_sample)
    q8))

-- the tick, at its new phase
unfoldable pub wavetable_at : Setting → List ℕ → ℕ → Target → Oscillator → ℕ → Ticked
wavetable_at s w base t o phase =
    finished s
    (set_phase o (cond (synced s t) 0 phase))
    (shaped s t (get_or w base 0) (wave_tap s w base (wave_place s t phase) phase))
    s.interpolate

abbrev pub wavetable_tick : Setting → List ℕ → ℕ → Target → Oscillator → Ticked
wavetable_tick s w base t o = wavetable_at s w base t o (stepped o.phase s.step)
