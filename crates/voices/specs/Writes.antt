-- What a write makes of the core and of the lent queue buffer. A channel above 7 changes nothing.
use Rattle.std.specs.Prelude.{true, cond, List, ℕ, zero, suc, ◌*◌, ◌-◌, eqb, leb, ltb, ℤ, length, set}
use Rattle.std.proofs.lemmas.List.Edits.{sets}
use Rattle.sizes.specs.Sizes.{fifo_capacity, num_channels, queue_buffer}
use Rattle.num.specs.Lists.{part}
use Rattle.version.specs.declared.SguVersion.{SguVersion}
use Rattle.stream.specs.Cache.{emptied}
use Rattle.voice.specs.Channel.{set_stream}
use Rattle.voice.specs.Reads.{streams_from}
use Rattle.voice.specs.Writes.{empties_cache, write_control, write_control_entries, write_pcm_reg}
use Rattle.voices.specs.Addresses.{channel_of, offset_of, is_control, by_address}
use Rattle.voices.specs.Core.{channel_at, set_wavetables, stored_channel}
use Rattle.voices.specs.declared.Core.{Core}

-- what a call makes that is lent a queue buffer of 16,384 entries; one of another length changes nothing
abbrev pub with_queues : {A : Type 0} → List ℤ → A → A → A
with_queues q after before = cond (eqb (length q) queue_buffer) after before

-- ---- one voice

unfoldable pub write_channel_control : SguVersion → Core → ℕ → ℕ → ℕ → Core
write_channel_control version k ch offset value =
    cond (ltb ch num_channels) (stored_channel k ch (write_control version (channel_at k ch) offset value) (empties_cache offset)) k

-- only the voice's own 2,048 entries can change
unfoldable pub write_channel_control_queues : SguVersion → Core → List ℤ → ℕ → ℕ → ℕ → List ℤ
write_channel_control_queues version k q ch offset value =
    cond (ltb ch num_channels) (sets q (ch * fifo_capacity) (write_control_entries version (channel_at k ch) (part q (ch * fifo_capacity) fifo_capacity) offset value)) q

unfoldable pub write_channel_pcm_reg : Core → ℕ → ℕ → ℕ → Core
write_channel_pcm_reg k ch offset value = cond (ltb ch num_channels) (stored_channel k ch (write_pcm_reg (channel_at k ch) offset value) (leb offset 9)) k

-- ---- the wavetables: an index past the last changes nothing
unfoldable pub write_wavetable : Core → ℕ → ℕ → Core
write_wavetable k at value = set_wavetables k (set k.wavetables at value)

-- ---- every address

unfoldable pub write_block : SguVersion → Core → ℕ → ℕ → ℕ → Core
write_block version k ch offset value =
    cond (is_control offset) (write_channel_control version k ch offset value) (write_channel_pcm_reg k ch (offset - 16) value)

unfoldable pub write_block_queues : SguVersion → Core → List ℤ → ℕ → ℕ → ℕ → List ℤ
write_block_queues version k q ch offset value = cond (is_control offset) (write_channel_control_queues version k q ch offset value) q

unfoldable pub write_register : SguVersion → Core → ℕ → ℕ → Core
write_register version k address value =
    by_address address (write_wavetable k address value) (write_block version k (channel_of address) (offset_of address) value) k

unfoldable pub write_register_queues : SguVersion → Core → List ℤ → ℕ → ℕ → List ℤ
write_register_queues version k q address value =
    by_address address q (write_block_queues version k q (channel_of address) (offset_of address) value) q

-- ---- a byte of the RAM: the cache of each voice whose stream has it is emptied, one voice after the other
unfoldable pub after_ram_write_at : ℕ → Core → ℕ → Core
after_ram_write_at address k ch =
    cond (streams_from (channel_at k ch) address) (stored_channel k ch (set_stream (channel_at k ch) emptied) true) k

unfoldable pub after_ram_write_to : ℕ → Core → ℕ → Core
after_ram_write_to zero k address = k
after_ram_write_to (suc ch) k address = after_ram_write_at address (after_ram_write_to ch k address) ch

abbrev pub after_ram_write : Core → ℕ → Core
after_ram_write k address = after_ram_write_to 8 k address
