-- A voice's ticks, one after the other.
use Rattle.std.specs.Prelude.{Bool, true, false, cond, List, ℕ, ◌*◌, ◌%◌, eqb, ℤ, pos, length}
use Rattle.registers.specs.declared.PcmRegisters.{PcmRegisters}
use Rattle.registers.specs.declared.WaveformType.{WaveformType}
use Rattle.registers.specs.declared.WaveformType.TheVariants.{Wavetable, Pcm, Noise, DmaPcm, Sqv4, FifoDac}
use Rattle.ticks.specs.Again.{again}
use Rattle.ticks.specs.Wavetable.{wavetable_tick}
use Rattle.ticks.specs.Pcm.{pcm_tick}
use Rattle.ticks.specs.Noise.{noise_tick, dma_tick}
use Rattle.ticks.specs.Mix.{sound_after}
use Rattle.ticks.specs.declared.Oscillator.{Oscillator}
use Rattle.ticks.specs.declared.Target.{Target}
use Rattle.ticks.specs.declared.Setting.{Setting}
use Rattle.ticks.specs.declared.Ticked.{Ticked}
use Rattle.ticks.specs.declared.Sound.{Sound}

-- what modulates an oscillator: itself as it is now, or another voice
abbrev pub target_for : Bool → Target → Oscillator → Target
target_for true t o = record { last_sample = o.last_sample; phase = o.phase; cycle = t.cycle }
target_for false t o = t

-- a tick of a waveform, given what modulates it
abbrev pub Tick : Type 0
Tick = Target → Oscillator → Ticked

abbrev pub sound_tick : Tick → Setting → Bool → Target → Sound → Sound
sound_tick tick s own t v = sound_after s v.sides (tick (target_for own t v.oscillator) v.oscillator)

-- n ticks; another voice stands still meanwhile
unfoldable pub ticks_of : ℕ → Tick → Setting → Bool → Target → Sound → Sound
ticks_of n tick s own t v = again n (sound_tick tick s own t) v

-- those that look at no target
abbrev pub noise_of : Setting → Tick
noise_of s t o = noise_tick s o

abbrev pub dma_of : Tick
dma_of t o = dma_tick o

-- a voice that is neither stream nor queue, by its waveform; a PCM voice over no RAM stands still
abbrev pub sound_ticks : ℕ → WaveformType → Setting → PcmRegisters → List ℕ → List ℕ → ℕ → Bool → Target → Sound → Sound
sound_ticks n Wavetable s p w ram ch own t v = ticks_of n (wavetable_tick s w (ch % 8 * 256)) s own t v
sound_ticks n Pcm s p w ram ch own t v = cond (eqb (length ram) 0) v (ticks_of n (pcm_tick s p ram) s own t v)
sound_ticks n Noise s p w ram ch own t v = ticks_of n (noise_of s) s own t v
sound_ticks n DmaPcm s p w ram ch own t v = ticks_of n dma_of s own t v
sound_ticks n Sqv4 s p w ram ch own t v = v
sound_ticks n FifoDac s p w ram ch own t v = v

-- the value ahead of the volume of one such tick, 8 fraction bits, given what modulates it as it stands; 0 of a voice that stands still
abbrev pub sound_value : WaveformType → Setting → PcmRegisters → List ℕ → List ℕ → ℕ → Target → Oscillator → ℤ
sound_value Wavetable s p w ram ch t o = (wavetable_tick s w (ch % 8 * 256) t o).q8
sound_value Pcm s p w ram ch t o = cond (eqb (length ram) 0) (pos 0) (pcm_tick s p ram t o).q8
sound_value Noise s p w ram ch t o = (noise_tick s o).q8
sound_value DmaPcm s p w ram ch t o = (dma_tick o).q8
sound_value Sqv4 s p w ram ch t o = pos 0
sound_value FifoDac s p w ram ch t o = pos 0
