-- The states in which a chip accepts the eight channels.
use Rattle.std.specs.Prelude.{◌≡◌, Bool, true, ◌&&◌, List, ℕ, zero, suc, ◌<◌, length, get_or}
use Rattle.sizes.specs.Sizes.{num_channels, wavetables_size}
use Rattle.version.specs.declared.SguVersion.{SguVersion}
use Rattle.voice.specs.Accepted.{accepts_channel, AcceptedChannel}
use Rattle.voice.specs.declared.Channel.{Channel}
use Rattle.voices.specs.Core.{channel_at, no_channel}
use Rattle.voices.specs.declared.Core.{Core}

-- the first n channels
unfoldable pub accepts_first : ℕ → List Channel → SguVersion → ℕ → Bool
accepts_first zero l version ram = true
accepts_first (suc n) l version ram = accepts_first n l version ram && accepts_channel (get_or l n no_channel) version ram

-- `ram` is the RAM's length
abbrev pub accepts_core : Core → SguVersion → ℕ → Bool
accepts_core k version ram = accepts_first 8 k.channels version ram

-- the tables as long as they are in the chip
pub record SizedCore (k : Core) : Type 0 where
  pub channels : length k.channels ≡ num_channels
  pub fragments : length k.fragments ≡ 1024
  pub wavetables : length k.wavetables ≡ wavetables_size

-- the same, channel by channel
pub record AcceptedCore (k : Core) (version : SguVersion) (ram : ℕ) : Type 0 where
  pub sized : SizedCore k
  pub each : (j : ℕ) → j < num_channels → AcceptedChannel (channel_at k j) version ram
