-- The voices that ticks turn off.
use Rattle.std.specs.Prelude.{Bool, false, List, ℕ, zero, suc, ℤ}
use Rattle.sizes.specs.Sizes.{num_channels, ticks_per_frame}
use Rattle.endings.specs.Sets.{off, either, set_of}
use Rattle.version.specs.declared.SguVersion.{SguVersion}
use Rattle.ticks.specs.Mix.{silence}
use Rattle.voice.specs.declared.Channel.{Channel}
use Rattle.voices.specs.Core.{channel_at}
use Rattle.voices.specs.declared.Core.{Core}
use Rattle.frames.specs.Ticking.{Voiced, voiced, voice_tick, voice_ticks}
use Rattle.frames.specs.Turning.{turned, frames}

-- a voice that was active and is so no more
abbrev pub turned_off : Channel → Channel → Bool
turned_off c d = off c.pcm.active d.pcm.active

module _ (version : SguVersion) (ram : List ℕ) (queues : List ℤ) (ch : ℕ) where
  -- a tick tells whether it turned its voice off
  unfoldable pub tick_ends : Voiced → Bool
  tick_ends s = turned_off (channel_at s.core ch) (channel_at (voice_tick version ram queues ch s).core ch)

  -- whether one of n ticks did
  unfoldable pub ticks_end : ℕ → Voiced → Bool
  ticks_end zero s = false
  ticks_end (suc n) s = either (ticks_end n s) (tick_ends (voice_ticks version ram queues ch n s))

  -- in a frame: the voice's four ticks, in its turn
  unfoldable pub frame_ends : Core → Bool
  frame_ends core = ticks_end ticks_per_frame (voiced (turned version ram queues 0 ticks_per_frame ch core).core silence)

  -- in one of n frames
  unfoldable pub frames_end : ℕ → Core → Bool
  frames_end zero core = false
  frames_end (suc n) core = either (frames_end n core) (frame_ends (frames version ram queues n core).core)

-- the voices that one of n frames turns off
abbrev pub frames_ended : SguVersion → List ℕ → List ℤ → ℕ → Core → ℕ
frames_ended version ram queues n core = set_of num_channels (λ ch. frames_end version ram queues ch n core)
