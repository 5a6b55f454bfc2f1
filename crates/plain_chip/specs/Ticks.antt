-- A tick of one of the plain chip's voices: no cache, no ring.
use Rattle.std.specs.Prelude.{true, false, cond, List, ℕ, ℤ, pos}
use Rattle.tone.specs.Phase.{sqv4_phase_step}
use Rattle.tone.specs.Mix.{last_sample_of, stream_last_sample, stream_volume_of}
use Rattle.tone.specs.Pcm.{loops}
use Rattle.version.specs.Versions.{has34si22, interpolates}
use Rattle.version.specs.declared.SguVersion.{SguVersion}
use Rattle.registers.specs.Pcm.{set_active}
use Rattle.registers.specs.PlainQueue.{plain_ticked}
use Rattle.stream.specs.Plain.{plain_tick}
use Rattle.stream.specs.declared.Play.{Play}
use Rattle.ticks.specs.Oscillators.{set_phase, set_last}
use Rattle.ticks.specs.Settings.{setting_of}
use Rattle.ticks.specs.Mix.{heard}
use Rattle.ticks.specs.Sounds.{sound_ticks, sound_value}
use Rattle.ticks.specs.declared.Target.{Target}
use Rattle.ticks.specs.declared.Sides.{Sides}
use Rattle.voice.specs.Kinds.{sounding_of}
use Rattle.voice.specs.declared.Kind.{Kind}
use Rattle.voice.specs.declared.Kind.TheVariants.{Silent, Oscillator, Sqv4, FifoDac}
use Rattle.plain_chip.specs.Voices.{PlainVoice, with_pcm, with_oscillator, with_plain_queue}

-- what a tick leaves: the voice, the sides with its sample in them, and its value ahead of the volume: an amplitude with 8 fraction bits, the
-- sample that a queue holds, or 0 of a silent voice
pub record VoiceTick (W : Type 0) : Type 0 where
  pub voice : W
  pub sides : Sides
  pub value : ℤ

abbrev pub still : {W : Type 0} → Sides → W → VoiceTick W
still sides v = record { voice = v; sides = sides; value = pos 0 }

abbrev pub plain_play : SguVersion → PlainVoice → Play
plain_play version v = record {
  start = v.pcm.start_addr;
  end = v.pcm.end_addr;
  loop_addr = v.pcm.loop_addr;
  loops = loops v.pcm.control;
  step = sqv4_phase_step v.registers.frequency;
  wants_v3 = has34si22 version;
  interpolate = interpolates version v.pcm.sample_control;
}

abbrev pub plain_sounding : PlainVoice → Kind
plain_sounding v = cond v.pcm.active (sounding_of v.registers.waveform_type) Silent

module _ (version : SguVersion) (ram : List ℕ) (t : Target) (sides : Sides) where
  unfoldable pub plain_sound : PlainVoice → VoiceTick PlainVoice
  plain_sound v =
      let set = setting_of v.registers v.pcm.sample_control version in
      let r = sound_ticks 1 v.registers.waveform_type set v.pcm v.wavetable ram 0 false t (record { oscillator = v.oscillator; sides = sides }) in
      record { voice = with_oscillator v r.oscillator; sides = r.sides; value = sound_value v.registers.waveform_type set v.pcm v.wavetable ram 0 t v.oscillator }

  -- a stream: the file is tested and decoded whole, from its first fragment, at each tick
  unfoldable pub plain_stream : PlainVoice → VoiceTick PlainVoice
  plain_stream v =
      let r = plain_tick ram (plain_play version v) v.oscillator.phase true in
      record {
        voice = with_pcm (with_oscillator v (set_last (set_phase v.oscillator r.phase) (stream_last_sample r.value))) (set_active v.pcm r.active);
        sides = heard sides (stream_volume_of r.value v.registers.volume) v.registers.panpot;
        value = r.value;
      }

  -- a queue: the volume does not apply
  unfoldable pub plain_fifo : PlainVoice → VoiceTick PlainVoice
  plain_fifo v =
      let l = plain_ticked v.queue v.registers.frequency in
      record {
        voice = with_plain_queue (with_oscillator v (set_last v.oscillator (last_sample_of l.held))) l;
        sides = heard sides l.held v.registers.panpot;
        value = l.held;
      }

  abbrev pub plain_tick_as : Kind → PlainVoice → VoiceTick PlainVoice
  plain_tick_as Silent v = still sides v
  plain_tick_as Oscillator v = plain_sound v
  plain_tick_as Sqv4 v = plain_stream v
  plain_tick_as FifoDac v = plain_fifo v

  unfoldable pub plain_voice_tick : PlainVoice → VoiceTick PlainVoice
  plain_voice_tick v = plain_tick_as (plain_sounding v) v
