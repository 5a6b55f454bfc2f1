-- Writes: a register of a block, and bytes of the RAM one after the other.
use Rattle.std.specs.Prelude.{Bool, cond, List, ℕ, zero, suc, ◌-◌, leb, ltb, ℤ, get_or}
use Rattle.version.specs.declared.SguVersion.{SguVersion}
use Rattle.voice.specs.Writes.{empties_cache, write_control, write_control_entries, write_pcm_reg}
use Rattle.voice.specs.declared.Channel.{Channel}
use Rattle.voices.specs.Addresses.{is_control}
use Rattle.voices.specs.Writes.{after_ram_write}
use Rattle.voices.specs.declared.Core.{Core}

-- ---- a write at a block's offset: its channel, its own entries of the queue buffer, whether the cache is emptied

unfoldable pub block_channel : SguVersion → Channel → ℕ → ℕ → Channel
block_channel version c offset value = cond (is_control offset) (write_control version c offset value) (write_pcm_reg c (offset - 16) value)

unfoldable pub block_entries : SguVersion → Channel → List ℤ → ℕ → ℕ → List ℤ
block_entries version c q offset value = cond (is_control offset) (write_control_entries version c q offset value) q

unfoldable pub block_empties : ℕ → Bool
block_empties offset = cond (is_control offset) (empties_cache offset) (leb (offset - 16) 9)

-- the first n bytes of a list that are written to a RAM of some length: an address past its end is none
unfoldable pub after_ram_writes : ℕ → ℕ → List ℕ → Core → Core
after_ram_writes ram zero addresses k = k
after_ram_writes ram (suc n) addresses k =
    let b = after_ram_writes ram n addresses k in
    cond (ltb (get_or addresses n 0) ram) (after_ram_write b (get_or addresses n 0)) b
