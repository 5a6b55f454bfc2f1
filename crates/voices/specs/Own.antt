-- A voice with its own parts of the tables.
use Rattle.std.specs.Prelude.{Bool, true, cond, List, ℕ, ◌*◌, ◌<◌, ◌≡◌, ℤ, pos, set, replicate}
use Rattle.sizes.specs.Sizes.{fifo_capacity, num_channels}
use Rattle.num.specs.Lists.{part}
use Rattle.version.specs.declared.SguVersion.{SguVersion}
use Rattle.stream.specs.Cache.{emptied}
use Rattle.voice.specs.Channel.{default_channel, set_stream, set_channel_version}
use Rattle.voice.specs.Reads.{streams_from}
use Rattle.voice.specs.declared.Channel.{Channel}
use Rattle.voices.specs.Core.{channel_at}
use Rattle.voices.specs.Accepted.{SizedCore}
use Rattle.voices.specs.declared.Core.{Core}

pub record Voice : Type 0 where
  pub channel : Channel
  pub fragments : List ℤ
  pub wavetable : List ℕ

abbrev pub voice : Channel → List ℤ → List ℕ → Voice
voice c fragments wavetable = record { channel = c; fragments = fragments; wavetable = wavetable }

abbrev pub voice_at : Core → ℕ → Voice
voice_at k j = voice (channel_at k j) (part k.fragments (j * 128) 128) (part k.wavetables (j * 256) 256)

-- its own entries of the queue buffer
abbrev pub queue_at : List ℤ → ℕ → List ℤ
queue_at q j = part q (j * fifo_capacity) fifo_capacity

-- ---- a voice changed
abbrev pub voice_stored : Voice → Channel → Bool → Voice
voice_stored v c invalidated = voice c (cond invalidated (replicate 128 (pos 0)) v.fragments) v.wavetable

abbrev pub voice_reset : Voice
voice_reset = voice default_channel (replicate 128 (pos 0)) (replicate 256 128)

abbrev pub voice_under : SguVersion → Voice → Voice
voice_under version v = voice_stored v (set_channel_version v.channel version) true

abbrev pub voice_after_ram_write : ℕ → Voice → Voice
voice_after_ram_write address v = cond (streams_from v.channel address) (voice_stored v (set_stream v.channel emptied) true) v

abbrev pub voice_wavetable : Voice → ℕ → ℕ → Voice
voice_wavetable v i value = voice v.channel v.fragments (set v.wavetable i value)

-- ---- what a core is after one voice was changed, or all of them alike

pub record Changed (k r : Core) (ch : ℕ) (v : Voice) : Type 0 where
  pub own : voice_at r ch ≡ v
  pub others : (j : ℕ) → (j ≡ ch → ⊥) → voice_at r j ≡ voice_at k j
  pub sized : SizedCore r

pub record ChangedAll (k r : Core) (f : Voice → Voice) : Type 0 where
  pub each : (j : ℕ) → j < num_channels → voice_at r j ≡ f (voice_at k j)
  pub sized : SizedCore r
