-- An oscillator's state, and what another voice sees of it.
use Rattle.std.specs.Prelude.{Bool, ◌&&◌, ℕ, ◌≤◌, ◌<◌, ◌^◌, leb, ltb, ℤ, pos}
use Rattle.std.specs.Int.{w16}
use Rattle.std.proofs.Common.{SFits}
use Rattle.tone.specs.Taps.{wave_cycle}
use Rattle.version.specs.Versions.{wavetable_mask_of}
use Rattle.version.specs.declared.SguVersion.{SguVersion}
use Rattle.ticks.specs.declared.Oscillator.{Oscillator}
use Rattle.ticks.specs.declared.Target.{Target}

abbrev pub default_oscillator : Oscillator
default_oscillator = record { phase = 0; old_phase = 0; lfsr_state = 315916348; last_sample = pos 0; slew_current = 0 }

-- ---- some parts set, the others as they were

abbrev pub set_phase : Oscillator → ℕ → Oscillator
set_phase o x = record { phase = x; old_phase = o.old_phase; lfsr_state = o.lfsr_state; last_sample = o.last_sample; slew_current = o.slew_current }

abbrev pub set_shift : Oscillator → ℕ → ℕ → ℕ → Oscillator
set_shift o x old lfsr = record { phase = x; old_phase = old; lfsr_state = lfsr; last_sample = o.last_sample; slew_current = o.slew_current }

abbrev pub set_last : Oscillator → ℤ → Oscillator
set_last o x = record { phase = o.phase; old_phase = o.old_phase; lfsr_state = o.lfsr_state; last_sample = x; slew_current = o.slew_current }

abbrev pub set_slew : Oscillator → ℕ → Oscillator
set_slew o x = record { phase = o.phase; old_phase = o.old_phase; lfsr_state = o.lfsr_state; last_sample = o.last_sample; slew_current = x }

-- ---- accepted: slew at most 65,280, old phase below 2 ^ 35
unfoldable pub accepts_oscillator : Oscillator → Bool
accepts_oscillator o = leb o.slew_current 65280 && ltb o.old_phase (2 ^ 35)

pub record AcceptedOscillator (o : Oscillator) : Type 0 where
  pub slew : o.slew_current ≤ 65280
  pub old : o.old_phase < 2 ^ 35

-- ---- the ranges that the types give
pub record FitOscillator (o : Oscillator) : Type 0 where
  pub phase : o.phase < 2 ^ 64
  pub lfsr : o.lfsr_state < 2 ^ 32
  pub last : SFits w16 o.last_sample

-- ---- targets

abbrev pub no_target : Target
no_target = record { last_sample = pos 0; phase = 0; cycle = 0 }

-- what a voice with this oscillator and sample control shows
abbrev pub target_from : Oscillator → SguVersion → ℕ → Target
target_from o version control = record { last_sample = o.last_sample; phase = o.phase; cycle = wave_cycle (wavetable_mask_of version control) }
