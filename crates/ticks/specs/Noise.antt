-- A tick of a noise voice, as generate_noise_sample has it, and of a DMA PCM voice, which is silent.
use Rattle.std.specs.Prelude.{false, cond, ℕ, ◌/◌, eqb, pos}
use Rattle.tone.specs.Phase.{whole, stepped}
use Rattle.tone.specs.Noise.{next_lfsr, noise_value}
use Rattle.ticks.specs.Oscillators.{set_phase, set_shift}
use Rattle.ticks.specs.Finish.{finished}
use Rattle.ticks.specs.declared.Oscillator.{Oscillator}
use Rattle.ticks.specs.declared.Setting.{Setting}
use Rattle.ticks.specs.declared.Ticked.{Ticked}

-- one shift for each 8 samples of phase
abbrev pub shifted_at : Setting → Oscillator → ℕ → Oscillator
shifted_at s o phase =
    cond (eqb (o.old_phase / 8) (whole phase / 8)) (set_phase o phase)
    (set_shift o phase (whole phase) (next_lfsr o.lfsr_state (eqb s.modulation 1) s.param_1 s.param_2))

unfoldable pub shifted_noise : Setting → Oscillator → Oscillator
shifted_noise s o = shifted_at s o (stepped o.phase s.step)

unfoldable pub noise_tick : Setting → Oscillator → Ticked
noise_tick s o = finished s (shifted_noise s o) (noise_value (shifted_noise s o).lfsr_state) false

abbrev pub dma_tick : Oscillator → Ticked
dma_tick o = record { oscillator = o; q8 = pos 0 }
