-- What a channel's ticks are given of it, and the channel after them.
use Rattle.std.specs.Prelude.{true, cond, pos}
use Rattle.tone.specs.Phase.{whole, sqv4_phase_step}
use Rattle.tone.specs.Mix.{last_sample_of, stream_last_sample}
use Rattle.tone.specs.Pcm.{loops}
use Rattle.version.specs.Versions.{has34si22, interpolates}
use Rattle.version.specs.declared.SguVersion.{SguVersion}
use Rattle.registers.specs.Pcm.{set_active}
use Rattle.stream.specs.Window.{window_of}
use Rattle.stream.specs.declared.Play.{Play}
use Rattle.stream.specs.declared.Window.{Window}
use Rattle.ticks.specs.Oscillators.{set_phase, set_last}
use Rattle.ticks.specs.Mix.{silence}
use Rattle.ticks.specs.declared.Sound.{Sound}
use Rattle.ticks.specs.declared.QueueSound.{QueueSound}
use Rattle.voice.specs.Channel.{set_oscillator, set_fifo, set_stream, set_pcm}
use Rattle.voice.specs.declared.Channel.{Channel}
use Rattle.voice.specs.declared.Kind.{Kind}
use Rattle.voice.specs.declared.Kind.TheVariants.{Silent}
use Rattle.voice.specs.declared.StreamSound.{StreamSound}
use Rattle.voice.specs.declared.Served.{Served}
use Rattle.voice.specs.Kinds.{sounding_of}

-- ---- what moves: nothing in a voice that is not active
abbrev pub kind_of : Channel → Kind
kind_of c = cond c.pcm.active (sounding_of c.registers.waveform_type) Silent

-- ---- an oscillator's ticks
abbrev pub silent_sound : Channel → Sound
silent_sound c = record { oscillator = c.oscillator; sides = silence }

abbrev pub after_sound : Channel → Sound → Channel
after_sound c v = set_oscillator c v.oscillator

-- ---- a queue's ticks
abbrev pub queue_sound_of : Channel → QueueSound
queue_sound_of c = record { fifo = c.fifo; sides = silence }

abbrev pub after_queue : Channel → QueueSound → Channel
after_queue c v = set_fifo (set_oscillator c (set_last c.oscillator (last_sample_of v.fifo.held))) v.fifo

-- ---- a stream's ticks
abbrev pub play_of : Channel → SguVersion → Play
play_of c version = record {
  start = c.pcm.start_addr;
  end = c.pcm.end_addr;
  loop_addr = c.pcm.loop_addr;
  loops = loops c.pcm.control;
  step = sqv4_phase_step c.registers.frequency;
  wants_v3 = has34si22 version;
  interpolate = interpolates version c.pcm.sample_control;
}

abbrev pub window_at : Channel → Window
window_at c = window_of c.stream (whole c.oscillator.phase)

abbrev pub served_of : Channel → Served
served_of c = record { ticks = 0; phase = c.oscillator.phase; q8 = pos 0; sides = silence }

abbrev pub after_served : Channel → Served → Channel
after_served c r = set_oscillator c (set_last (set_phase c.oscillator r.phase) (stream_last_sample r.q8))

abbrev pub stream_sound_of : Channel → Served → StreamSound
stream_sound_of c r = record { voice = record { cache = c.stream; phase = r.phase; active = true; q8 = r.q8 }; sides = r.sides }

abbrev pub after_stream : Channel → StreamSound → Channel
after_stream c v =
    set_stream (set_pcm (set_oscillator c (set_last (set_phase c.oscillator v.voice.phase) (stream_last_sample v.voice.q8))) (set_active c.pcm v.voice.active)) v.voice.cache
