-- What is read, and what reading makes of the core. A channel above 7 reads 0.
use Rattle.std.specs.Prelude.{Bool, false, cond, List, ℕ, ◌+◌, eqb, ltb, get_or}
use Rattle.sizes.specs.Sizes.{num_channels}
use Rattle.version.specs.Versions.{has3ws8pna, has_sample_control, interpolates, wavetable_mask_of}
use Rattle.version.specs.declared.SguVersion.{SguVersion}
use Rattle.registers.specs.Pcm.{read_pcm}
use Rattle.voice.specs.Reads.{read_control, after_read}
use Rattle.voice.specs.declared.Channel.{Channel}
use Rattle.voices.specs.Addresses.{channel_of, offset_of, by_address}
use Rattle.voices.specs.Core.{channel_at, stored_channel}
use Rattle.voices.specs.declared.Core.{Core}

-- ---- one voice

unfoldable pub read_channel_control : SguVersion → Core → ℕ → ℕ → ℕ
read_channel_control version k ch offset = cond (ltb ch num_channels) (read_control version (channel_at k ch) offset) 0

unfoldable pub read_channel_pcm_reg : Core → ℕ → ℕ → ℕ
read_channel_pcm_reg k ch offset = cond (ltb ch num_channels) (read_pcm (channel_at k ch).pcm offset) 0

-- what a read at an offset makes of the core
unfoldable pub after_read_channel : Core → ℕ → ℕ → Core
after_read_channel k ch offset = cond (ltb ch num_channels) (stored_channel k ch (after_read (channel_at k ch) offset) (eqb offset 10)) k

-- ---- the wavetables: 0 past the last
abbrev pub read_wavetable : Core → ℕ → ℕ
read_wavetable k at = get_or k.wavetables at 0

-- ---- every address
unfoldable pub peek_register : SguVersion → Core → ℕ → ℕ
peek_register version k address =
    by_address address (read_wavetable k address) (read_channel_control version k (channel_of address) (offset_of address)) 0

-- the same from the channel whose block the address lies in, and the wavetables
unfoldable pub seen_at : SguVersion → Channel → List ℕ → ℕ → ℕ
seen_at version c wavetables address = by_address address (get_or wavetables address 0) (read_control version c (offset_of address)) 0

-- whether reading there empties a cache
unfoldable pub read_empties : ℕ → Bool
read_empties address = by_address address false (eqb (offset_of address) 10) false

unfoldable pub after_read_register : Core → ℕ → Core
after_read_register k address =
    by_address address k (after_read_channel k (channel_of address) (offset_of address)) k

-- ---- what sample control chooses: above 7, where it is not looked at, as the version has it, and 0 and no under V3.1

unfoldable pub wavetable_length : SguVersion → Core → ℕ → ℕ
wavetable_length version k ch =
    cond (ltb ch num_channels) (wavetable_mask_of version (channel_at k ch).pcm.sample_control + 1) (cond (has_sample_control version) 0 256)

unfoldable pub interpolates_at : SguVersion → Core → ℕ → Bool
interpolates_at version k ch =
    cond (ltb ch num_channels) (interpolates version (channel_at k ch).pcm.sample_control) (cond (has_sample_control version) false (has3ws8pna version))
