-- A voice's ticks where it stands among the eight.
use Rattle.std.specs.Prelude.{ℕ, ◌*◌, List, ℤ}
use Rattle.sizes.specs.Sizes.{fifo_capacity}
use Rattle.num.specs.Lists.{part}
use Rattle.version.specs.declared.SguVersion.{SguVersion}
use Rattle.registers.specs.Control.{target_channel}
use Rattle.ticks.specs.Again.{again}
use Rattle.ticks.specs.Oscillators.{target_from}
use Rattle.ticks.specs.declared.Sides.{Sides}
use Rattle.ticks.specs.declared.Target.{Target}
use Rattle.ticks.specs.declared.Sound.{Sound}
use Rattle.ticks.specs.declared.QueueSound.{QueueSound}
use Rattle.voice.specs.Sounding.{kind_of, after_sound, after_queue, after_stream}
use Rattle.voice.specs.Streaming.{Lent}
use Rattle.voice.specs.Ticking.{channel_sound, channel_queue, channel_stream}
use Rattle.voice.specs.declared.Channel.{Channel}
use Rattle.voice.specs.declared.Kind.{Kind}
use Rattle.voice.specs.declared.Kind.TheVariants.{Silent, Oscillator, Sqv4, FifoDac}
use Rattle.voices.specs.Core.{channel_at, set_channel, set_fragments}
use Rattle.voices.specs.declared.Core.{Core}

-- eight voices, and what the ticks have given to the two sides so far
pub record Voiced : Type 0 where
  pub core : Core
  pub sides : Sides

abbrev pub voiced : Core → Sides → Voiced
voiced core sides = record { core = core; sides = sides }

-- ---- n ticks of a channel c that stands at ch, from some sides on
module _ (version : SguVersion) (ram : List ℕ) (queues : List ℤ) (ch n : ℕ) (core : Core) (sides : Sides) (c : Channel) where
  abbrev pub target : ℕ
  target = target_channel c.registers ch

  -- the voice that modulates it, as it stands
  abbrev pub modulator : Target
  modulator = target_from (channel_at core target).oscillator version (channel_at core target).pcm.sample_control

  abbrev pub sound_from : Sound
  sound_from = channel_sound version core.wavetables ram ch modulator n sides c

  -- its queue is the 2,048 entries from 2,048 times the channel on
  abbrev pub queue_from : QueueSound
  queue_from = channel_queue (part queues (ch * fifo_capacity) fifo_capacity) n sides c

  -- its decoded fragments are the 128 samples from 128 times the channel on
  abbrev pub stream_from : Lent
  stream_from = channel_stream version core.fragments (ch * 128) ram n sides c

-- ---- the same, stored
module _ (version : SguVersion) (ram : List ℕ) (queues : List ℤ) (ch : ℕ) where
  abbrev pub sound_stored : Voiced → Channel → Sound → Voiced
  sound_stored s c v = voiced (set_channel s.core ch (after_sound c v)) v.sides

  abbrev pub queue_stored : Voiced → Channel → QueueSound → Voiced
  queue_stored s c v = voiced (set_channel s.core ch (after_queue c v)) v.sides

  abbrev pub stream_stored : Voiced → Channel → Lent → Voiced
  stream_stored s c v = voiced (set_fragments (set_channel s.core ch (after_stream c v.sound)) v.samples) v.sound.sides

  -- by what moves in the voice; a silent one is left as it is
  abbrev pub ticks_as : ℕ → Kind → Voiced → Channel → Voiced
  ticks_as n Silent s c = s
  ticks_as n Oscillator s c = sound_stored s c (sound_from version ram queues ch n s.core s.sides c)
  ticks_as n Sqv4 s c = stream_stored s c (stream_from version ram queues ch n s.core s.sides c)
  ticks_as n FifoDac s c = queue_stored s c (queue_from version ram queues ch n s.core s.sides c)

  -- one tick of the voice
  unfoldable pub voice_tick : Voiced → Voiced
  voice_tick s = ticks_as 1 (kind_of (channel_at s.core ch)) s (channel_at s.core ch)

-- ticks of the voice, each of the voices as the tick before left them
unfoldable pub voice_ticks : SguVersion → List ℕ → List ℤ → ℕ → ℕ → Voiced → Voiced
voice_ticks version ram queues ch n s = again n (voice_tick version ram queues ch) s
