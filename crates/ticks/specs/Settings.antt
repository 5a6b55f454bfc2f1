-- What the registers mean to a voice's ticks.
use Rattle.std.specs.Prelude.{ℕ}
use Rattle.tone.specs.Phase.{wave_phase_step, pcm_phase_step, sqv4_phase_step}
use Rattle.version.specs.Versions.{interpolates, wavetable_mask_of}
use Rattle.registers.specs.Waveforms.{modulation_number}
use Rattle.version.specs.declared.SguVersion.{SguVersion}
use Rattle.registers.specs.declared.WaveformType.{WaveformType}
use Rattle.registers.specs.declared.WaveformType.TheVariants.{Wavetable, Pcm, Noise, DmaPcm, Sqv4, FifoDac}
use Rattle.registers.specs.declared.Registers.{Registers}
use Rattle.ticks.specs.declared.Setting.{Setting}

-- the phase step of a waveform
abbrev pub step_of : WaveformType → ℕ → ℕ
step_of Wavetable frequency = wave_phase_step frequency
step_of Pcm frequency = pcm_phase_step frequency
step_of Noise frequency = wave_phase_step frequency
step_of DmaPcm frequency = 0
step_of Sqv4 frequency = sqv4_phase_step frequency
step_of FifoDac frequency = 0

abbrev pub setting_of : Registers → ℕ → SguVersion → Setting
setting_of g control version = record {
  volume = g.volume;
  panpot = g.panpot;
  modulation = modulation_number g.modulation_type;
  param_1 = g.modulation_param_1;
  param_2 = g.modulation_param_2;
  interpolate = interpolates version control;
  mask = wavetable_mask_of version control;
  step = step_of g.waveform_type g.frequency;
}
