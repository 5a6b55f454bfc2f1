-- What moves in a voice, a queue's sample from its bytes, and an oscillator that begins anew.
use Rattle.std.specs.Prelude.{ℕ, ◌+◌, ◌*◌, ℤ}
use Rattle.std.specs.Int.{w16}
use Rattle.std.proofs.Common.{to_z}
use Rattle.ticks.specs.declared.Oscillator.{Oscillator}
use Rattle.registers.specs.declared.WaveformType.{WaveformType}
use Rattle.registers.specs.declared.WaveformType.TheVariants as waveforms
use Rattle.voice.specs.declared.Kind.{Kind}
use Rattle.voice.specs.declared.Kind.TheVariants as kinds

abbrev pub sounding_of : WaveformType → Kind
sounding_of waveforms.Wavetable = kinds.Oscillator
sounding_of waveforms.Pcm = kinds.Oscillator
sounding_of waveforms.Noise = kinds.Oscillator
sounding_of waveforms.DmaPcm = kinds.Oscillator
sounding_of waveforms.Sqv4 = kinds.Sqv4
sounding_of waveforms.FifoDac = kinds.FifoDac

-- a sample, its high byte first
abbrev pub sample_of : ℕ → ℕ → ℤ
sample_of high low = to_z w16 (high * 256 + low)

-- phase, slew and noise begin anew; old phase and last sample stay
abbrev pub oscillator_restarted : Oscillator → Oscillator
oscillator_restarted o = record { phase = 0; old_phase = o.old_phase; lfsr_state = 315916348; last_sample = o.last_sample; slew_current = 0 }
