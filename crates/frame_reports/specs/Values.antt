-- The values ahead of the volume, one a tick, read off the states that the turns go through.
use Rattle.std.specs.Prelude.{List, [], ◌∷◌, ◌++◌, ℕ, zero, suc, ◌+◌, ◌%◌, eqb, ℤ, pos}
use Rattle.sizes.specs.Sizes.{num_channels, ticks_per_frame}
use Rattle.tone.specs.Mix.{volume_of, stream_volume_of}
use Rattle.version.specs.declared.SguVersion.{SguVersion}
use Rattle.ticks.specs.Mix.{silence, heard}
use Rattle.ticks.specs.Settings.{setting_of}
use Rattle.ticks.specs.Sounds.{target_for, sound_value}
use Rattle.ticks.specs.declared.Sides.{Sides}
use Rattle.voice.specs.Sounding.{kind_of}
use Rattle.voice.specs.declared.Channel.{Channel}
use Rattle.voice.specs.declared.Kind.{Kind}
use Rattle.voice.specs.declared.Kind.TheVariants.{Silent, Oscillator, Sqv4, FifoDac}
use Rattle.voices.specs.Core.{channel_at}
use Rattle.voices.specs.declared.Core.{Core}
use Rattle.frames.specs.Ticking.{Voiced, voiced, target, modulator, stream_from, queue_from, voice_ticks}
use Rattle.frames.specs.Turning.{turned, frames}

-- a value on the sides: the volume is an oscillator's or a stream's, and does not apply to a queue; a silent voice gives none
abbrev pub heard_as : Kind → Channel → Sides → ℤ → Sides
heard_as Silent c sides x = sides
heard_as Oscillator c sides x = heard sides (volume_of x c.registers.volume) c.registers.panpot
heard_as Sqv4 c sides x = heard sides (stream_volume_of x c.registers.volume) c.registers.panpot
heard_as FifoDac c sides x = heard sides x c.registers.panpot

module _ (version : SguVersion) (ram : List ℕ) (queues : List ℤ) where
  -- ---- of the tick that a voice is about to make: an oscillator's amplitude and a stream's, 8 fraction bits, or the sample that a queue holds; 0 of a silent voice
  abbrev pub value_as : ℕ → Kind → Voiced → Channel → ℤ
  value_as ch Silent s c = pos 0
  value_as ch Oscillator s c =
      let at = target version ram queues ch 1 s.core s.sides c in
      sound_value c.registers.waveform_type (setting_of c.registers c.pcm.sample_control version) c.pcm s.core.wavetables ram ch
      (target_for (eqb at ch) (modulator version ram queues ch 1 s.core s.sides c) c.oscillator) c.oscillator
  value_as ch Sqv4 s c = (stream_from version ram queues ch 1 s.core s.sides c).sound.voice.q8
  value_as ch FifoDac s c = (queue_from version ram queues ch 1 s.core s.sides c).fifo.held

  unfoldable pub tick_value : ℕ → Voiced → ℤ
  tick_value ch s = value_as ch (kind_of (channel_at s.core ch)) s (channel_at s.core ch)

  -- ---- of n ticks of a voice, of k turns, of m frames
  unfoldable pub tick_values : ℕ → ℕ → Voiced → List ℤ
  tick_values ch zero s = []
  tick_values ch (suc n) s = tick_values ch n s ++ (tick_value ch (voice_ticks version ram queues ch n s) ∷ [])

  unfoldable pub turned_values : ℕ → ℕ → ℕ → Core → List ℤ
  turned_values first n zero core = []
  turned_values first n (suc k) core = turned_values first n k core ++ tick_values ((first + k) % num_channels) n (voiced (turned version ram queues first n k core).core silence)

  abbrev pub frame_values : Core → List ℤ
  frame_values core = turned_values 0 ticks_per_frame num_channels core

  unfoldable pub frames_values : ℕ → Core → List ℤ
  frames_values zero core = []
  frames_values (suc m) core = frames_values m core ++ frame_values (frames version ram queues m core).core
