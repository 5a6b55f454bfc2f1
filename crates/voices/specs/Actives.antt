-- Which of the eight voices are active, and which were and are so no more.
use Rattle.std.specs.Prelude.{◌≡◌, Bool, false, List, ℕ, ◌<◌, get_or}
use Rattle.sizes.specs.Sizes.{num_channels}
use Rattle.endings.specs.Sets.{off, set_of}
use Rattle.voice.specs.declared.Channel.{Channel}
use Rattle.voices.specs.Core.{no_channel}

-- flags that say of each channel whether it is active
abbrev pub Actives : List Channel → List Bool → Type 0
Actives channels flags = (ch : ℕ) → ch < num_channels → get_or flags ch false ≡ (get_or channels ch no_channel).pcm.active

-- the channels whose flag is set and that are not active
unfoldable pub ended_since : List Bool → List Channel → ℕ
ended_since was channels = set_of num_channels (λ ch. off (get_or was ch false) (get_or channels ch no_channel).pcm.active)
