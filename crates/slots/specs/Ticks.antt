-- A tick of one of the chip's voices, with its cache and its ring.
use Rattle.std.specs.Prelude.{true, false, List, ℕ, pos}
use Rattle.version.specs.declared.SguVersion.{SguVersion}
use Rattle.ticks.specs.Settings.{setting_of}
use Rattle.ticks.specs.Sounds.{sound_ticks, sound_value}
use Rattle.ticks.specs.Queues.{queue_ticks}
use Rattle.ticks.specs.declared.Target.{Target}
use Rattle.ticks.specs.declared.Sides.{Sides}
use Rattle.voice.specs.Sounding.{kind_of, after_sound, after_queue, play_of, after_stream}
use Rattle.voice.specs.Streaming.{lent, stream_ticks}
use Rattle.voice.specs.declared.Channel.{Channel}
use Rattle.voice.specs.declared.Kind.{Kind}
use Rattle.voice.specs.declared.Kind.TheVariants.{Silent, Oscillator, Sqv4, FifoDac}
use Rattle.plain_chip.specs.Ticks.{VoiceTick, still}
use Rattle.slots.specs.Slots.{Slot}

-- given what modulates it
module _ (version : SguVersion) (ram : List ℕ) (t : Target) (sides : Sides) where
  abbrev pub channel_in : Slot → Channel → Slot
  channel_in s c = record { channel = c; fragments = s.fragments; wavetable = s.wavetable; queue = s.queue }

  -- neither stream nor queue: the wavetable is the voice's own, from 0 on
  unfoldable pub slot_sound : Slot → VoiceTick Slot
  slot_sound s =
      let c = s.channel in
      let set = setting_of c.registers c.pcm.sample_control version in
      let r = sound_ticks 1 c.registers.waveform_type set c.pcm s.wavetable ram 0 false t (record { oscillator = c.oscillator; sides = sides }) in
      record { voice = channel_in s (after_sound c r); sides = r.sides; value = sound_value c.registers.waveform_type set c.pcm s.wavetable ram 0 t c.oscillator }

  unfoldable pub slot_stream : Slot → VoiceTick Slot
  slot_stream s =
      let c = s.channel in
      let r = stream_ticks 1 ram (play_of c version) c.registers.volume c.registers.panpot (lent (record { voice = record { cache = c.stream; phase = c.oscillator.phase; active = true; q8 = pos 0 }; sides = sides }) s.fragments) in
      record {
        voice = record { channel = after_stream c r.sound; fragments = r.samples; wavetable = s.wavetable; queue = s.queue };
        sides = r.sound.sides;
        value = r.sound.voice.q8;
      }

  unfoldable pub slot_fifo : Slot → VoiceTick Slot
  slot_fifo s =
      let c = s.channel in
      let r = queue_ticks 1 c.registers.frequency c.registers.panpot s.queue (record { fifo = c.fifo; sides = sides }) in
      record { voice = channel_in s (after_queue c r); sides = r.sides; value = r.fifo.held }

  abbrev pub slot_tick_as : Kind → Slot → VoiceTick Slot
  slot_tick_as Silent s = still sides s
  slot_tick_as Oscillator s = slot_sound s
  slot_tick_as Sqv4 s = slot_stream s
  slot_tick_as FifoDac s = slot_fifo s

  unfoldable pub slot_tick : Slot → VoiceTick Slot
  slot_tick s = slot_tick_as (kind_of s.channel) s
