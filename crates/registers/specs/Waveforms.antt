-- Waveforms and modulations, and their numbers.
use Rattle.std.specs.Prelude.{Bool, true, false, cond, ℕ, eqb}
use Rattle.version.specs.Versions.{has3ws8pna}
use Rattle.version.specs.declared.SguVersion.{SguVersion}
use Rattle.registers.specs.declared.WaveformType.{WaveformType}
use Rattle.registers.specs.declared.WaveformType.TheVariants.{Wavetable, Pcm, Noise, DmaPcm, Sqv4, FifoDac}
use Rattle.registers.specs.declared.ModulationType.{ModulationType}
use Rattle.registers.specs.declared.ModulationType.TheVariants.{None, Phase, Ring, HardSync, Window, SlewRate, SlewStep}

-- ---- waveforms

abbrev pub waveform_from : ℕ → WaveformType
waveform_from n =
    cond (eqb n 1) Pcm (cond (eqb n 2) Noise (cond (eqb n 3) DmaPcm (cond (eqb n 4) Sqv4 (cond (eqb n 5) FifoDac Wavetable))))

abbrev pub waveform_number : WaveformType → ℕ
waveform_number Wavetable = 0
waveform_number Pcm = 1
waveform_number Noise = 2
waveform_number DmaPcm = 3
waveform_number Sqv4 = 4
waveform_number FifoDac = 5

abbrev pub is_sqv4 : WaveformType → Bool
is_sqv4 Wavetable = false
is_sqv4 Pcm = false
is_sqv4 Noise = false
is_sqv4 DmaPcm = false
is_sqv4 Sqv4 = true
is_sqv4 FifoDac = false

abbrev pub without_fifo : WaveformType → WaveformType
without_fifo Wavetable = Wavetable
without_fifo Pcm = Pcm
without_fifo Noise = Noise
without_fifo DmaPcm = DmaPcm
without_fifo Sqv4 = Sqv4
without_fifo FifoDac = Wavetable

-- the waveform under a version: there is no FIFO before V2.1
abbrev pub under : WaveformType → SguVersion → WaveformType
under w version = cond (has3ws8pna version) w (without_fifo w)

-- ---- modulations

abbrev pub modulation_from : ℕ → ModulationType
modulation_from n =
    cond (eqb n 1) Phase (cond (eqb n 2) Ring (cond (eqb n 3) HardSync (cond (eqb n 4) Window (cond (eqb n 5) SlewRate (cond (eqb n 6) SlewStep None)))))

abbrev pub modulation_number : ModulationType → ℕ
modulation_number None = 0
modulation_number Phase = 1
modulation_number Ring = 2
modulation_number HardSync = 3
modulation_number Window = 4
modulation_number SlewRate = 5
modulation_number SlewStep = 6

-- whether a wavetable voice looks at its target
abbrev pub has_target : ModulationType → Bool
has_target None = false
has_target Phase = true
has_target Ring = true
has_target HardSync = true
has_target Window = true
has_target SlewRate = false
has_target SlewStep = false

abbrev pub is_phase : ModulationType → Bool
is_phase None = false
is_phase Phase = true
is_phase Ring = false
is_phase HardSync = false
is_phase Window = false
is_phase SlewRate = false
is_phase SlewStep = false
