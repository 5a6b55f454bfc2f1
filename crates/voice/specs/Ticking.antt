-- A channel's ticks with what is lent beside it: wavetables, decoded fragments, the RAM, its queue's entries, and what modulates it.
use Rattle.std.specs.Prelude.{ℕ, ◌*◌, ◌%◌, true, List, ℤ, pos, ◌==◌}
use Rattle.sizes.specs.Sizes.{num_channels}
use Rattle.version.specs.declared.SguVersion.{SguVersion}
use Rattle.registers.specs.Control.{target_channel}
use Rattle.ticks.specs.Mix.{silence}
use Rattle.ticks.specs.Settings.{setting_of}
use Rattle.ticks.specs.Sounds.{sound_ticks}
use Rattle.ticks.specs.Queues.{queue_ticks}
use Rattle.ticks.specs.declared.Sides.{Sides}
use Rattle.ticks.specs.declared.Target.{Target}
use Rattle.ticks.specs.declared.Sound.{Sound}
use Rattle.ticks.specs.declared.QueueSound.{QueueSound}
use Rattle.voice.specs.Sounding.{kind_of, play_of, after_sound, after_queue, after_stream}
use Rattle.voice.specs.Streaming.{Lent, lent, stream_ticks_at}
use Rattle.voice.specs.declared.Channel.{Channel}
use Rattle.voice.specs.declared.ChannelTick.{ChannelTick}
use Rattle.voice.specs.declared.Kind.{Kind}
use Rattle.voice.specs.declared.Kind.TheVariants.{Silent, Oscillator, Sqv4, FifoDac}

-- ---- n ticks of a channel c from some sides on

-- it stands at ch; the voice that modulates it is itself, or another one, t
abbrev pub channel_sound : SguVersion → List ℕ → List ℕ → ℕ → Target → ℕ → Sides → Channel → Sound
channel_sound version wavetables ram ch t n sides c =
    sound_ticks n c.registers.waveform_type (setting_of c.registers c.pcm.sample_control version) c.pcm wavetables ram ch (target_channel c.registers ch == ch) t
    (record { oscillator = c.oscillator; sides = sides })

abbrev pub channel_queue : List ℤ → ℕ → Sides → Channel → QueueSound
channel_queue queue n sides c = queue_ticks n c.registers.frequency c.registers.panpot queue (record { fifo = c.fifo; sides = sides })

-- its decoded fragments are the 128 samples from a base on
abbrev pub channel_stream : SguVersion → List ℤ → ℕ → List ℕ → ℕ → Sides → Channel → Lent
channel_stream version fragments base ram n sides c =
    stream_ticks_at base n ram (play_of c version) c.registers.volume c.registers.panpot
    (lent (record { voice = record { cache = c.stream; phase = c.oscillator.phase; active = true; q8 = pos 0 }; sides = sides }) fragments)

-- ---- the channel after them, and what they gave to the sides
abbrev pub by_sound : Channel → Sound → ChannelTick
by_sound c v = record { channel = after_sound c v; sides = v.sides }

abbrev pub by_queue : Channel → QueueSound → ChannelTick
by_queue c v = record { channel = after_queue c v; sides = v.sides }

-- ---- one tick from silence, with the decoded fragments after it
pub record TickBeside : Type 0 where
  pub tick : ChannelTick
  pub fragments : List ℤ

abbrev pub beside : ChannelTick → List ℤ → TickBeside
beside tick fragments = record { tick = tick; fragments = fragments }

abbrev pub by_stream : Channel → Lent → TickBeside
by_stream c v = beside (record { channel = after_stream c v.sound; sides = v.sound.sides }) v.samples

module _ (version : SguVersion) (wavetables : List ℕ) (fragments : List ℤ) (ram : List ℕ) (queue : List ℤ) (ch : ℕ) (t : Target) (c : Channel) where
  -- by what moves in the voice; a silent one is left as it is
  abbrev pub channel_tick_as : Kind → TickBeside
  channel_tick_as Silent = beside (record { channel = c; sides = silence }) fragments
  channel_tick_as Oscillator = beside (by_sound c (channel_sound version wavetables ram ch t 1 silence c)) fragments
  channel_tick_as Sqv4 = by_stream c (channel_stream version fragments (ch % num_channels * 128) ram 1 silence c)
  channel_tick_as FifoDac = beside (by_queue c (channel_queue queue 1 silence c)) fragments

  unfoldable pub channel_tick : TickBeside
  channel_tick = channel_tick_as (kind_of c)
