-- What the code does at each call of the list, in the words of its contracts.
use Rattle.std.specs.Prelude.{◌≡◌, List, [], ◌∷◌, ℕ, ℤ, length}
use Rattle.sides.specs.Sides.{saturating, wrapping}
use Rattle.s3w2.specs.Fresh.{set_version_called, reset_called, reset_ram, reset_channel_called}
use Rattle.s3w2.specs.Registers.{write_register_called, write_register_buffer, read_register_called, peek_register_answer}
use Rattle.s3w2.specs.Channels.{write_channel_wavetable_called, read_channel_wavetable_answer, write_channel_control_called, write_channel_control_buffer, read_channel_control_called, write_channel_pcm_reg_called, read_channel_pcm_reg_answer, wavetable_length_answer, interpolates_answer}
use Rattle.s3w2.specs.Ram.{write_pcm_ram_called, write_pcm_ram_ram, read_pcm_ram_answer}
use Rattle.chip_sound.specs.Sound.{generate_sample_called, clock_called, clock_stems}
use Rattle.chip_sound.specs.Mixing.{mixed_called, mixed_i32_called, mixed_left, mixed_right, clock_mixed_called, clock_mixed_left, clock_mixed_right}
use Rattle.session.specs.Heads.{write_head_answer, write_head_text, read_head_called}
use Rattle.session.specs.Voices.{write_voice_answer, write_voice_text, read_voice_called, read_voice_queues, read_stored_voice_called, read_stored_voice_queues}
use Rattle.s3w2.specs.declared.Called.{Called}
use Rattle.session.specs.Answers.{LineAnswer}
use Rattle.session.specs.declared.LineCalled.{LineCalled}
use Rattle.call_lists.specs.Runs.{Outcome}
use Rattle.call_lists.specs.Calls.{CallAnswer, Call, reset, set_version, reset_channel, write_register, read_register, peek_register, write_channel_control, read_channel_control, write_channel_pcm_reg, read_channel_pcm_reg, write_channel_wavetable, read_channel_wavetable, wavetable_length, interpolates, write_pcm_ram, read_pcm_ram, generate_sample, clock, clock_mixed, clock_mixed_into, clock_mixed_into_i32, write_head, read_head, write_voice, read_voice, read_stored_voice}
use Rattle.chip_calls.specs.Ties.{Machine, by, sounded, only_tells, wrote_by, read_by}
use Rattle.chip_calls.specs.Values.{sample_call_values, clock_call_values, mixed_call_values, clock_mixed_call_values}

unfoldable pub code : Machine → Call → Outcome Machine CallAnswer
code m reset = by (reset_called m.chip (length m.ram)) (reset_ram m.chip m.ram) m.queues []
code m (set_version version) = by (set_version_called m.chip version) m.ram m.queues []
code m (reset_channel core ch) = by (reset_channel_called m.chip core ch) m.ram m.queues []
code m (write_register core address value) =
    by (write_register_called m.chip (length m.queues) core address value) m.ram (write_register_buffer m.chip m.queues core address value) []
code m (read_register core address) = by (read_register_called m.chip core address) m.ram m.queues []
code m (peek_register core address) = only_tells m.chip m.ram m.queues (peek_register_answer m.chip core address)
code m (write_channel_control core ch offset value) =
    by (write_channel_control_called m.chip (length m.queues) core ch offset value) m.ram (write_channel_control_buffer m.chip m.queues core ch offset value) []
code m (read_channel_control core ch offset) = by (read_channel_control_called m.chip core ch offset) m.ram m.queues []
code m (write_channel_pcm_reg core ch offset value) = by (write_channel_pcm_reg_called m.chip core ch offset value) m.ram m.queues []
code m (read_channel_pcm_reg core ch offset) = only_tells m.chip m.ram m.queues (read_channel_pcm_reg_answer m.chip core ch offset)
code m (write_channel_wavetable core ch at value) = by (write_channel_wavetable_called m.chip core ch at value) m.ram m.queues []
code m (read_channel_wavetable core ch at) = only_tells m.chip m.ram m.queues (read_channel_wavetable_answer m.chip core ch at)
code m (wavetable_length core ch) = only_tells m.chip m.ram m.queues (wavetable_length_answer m.chip core ch)
code m (interpolates core ch) = only_tells m.chip m.ram m.queues (interpolates_answer m.chip core ch)
code m (write_pcm_ram address value) = by (write_pcm_ram_called m.chip (length m.ram) address) (write_pcm_ram_ram m.chip m.ram address value) m.queues []
code m (read_pcm_ram address) = only_tells m.chip m.ram m.queues (read_pcm_ram_answer m.chip m.ram address)
code m (generate_sample core ch) =
    sounded (generate_sample_called m.chip m.ram m.queues core ch) m.ram m.queues [] (sample_call_values m.chip m.ram m.queues core ch)
code m (clock n stems) =
    sounded (clock_called m.chip m.ram m.queues n (length stems)) m.ram m.queues (clock_stems m.chip m.ram m.queues n stems ∷ [])
    (clock_call_values m.chip m.ram m.queues n (length stems))
code m (clock_mixed left right) =
    sounded (clock_mixed_called m.chip m.ram m.queues left right) m.ram m.queues
    (clock_mixed_left m.chip m.ram m.queues left right ∷ clock_mixed_right m.chip m.ram m.queues left right ∷ [])
    (clock_mixed_call_values m.chip m.ram m.queues left right)
code m (clock_mixed_into left right) =
    sounded (mixed_called m.chip m.ram m.queues left right) m.ram m.queues
    (mixed_left saturating m.chip m.ram m.queues left right ∷ mixed_right saturating m.chip m.ram m.queues left right ∷ [])
    (mixed_call_values m.chip m.ram m.queues left right)
code m (clock_mixed_into_i32 left right) =
    sounded (mixed_i32_called m.chip m.ram m.queues left right) m.ram m.queues
    (mixed_left wrapping m.chip m.ram m.queues left right ∷ mixed_right wrapping m.chip m.ram m.queues left right ∷ [])
    (mixed_call_values m.chip m.ram m.queues left right)
code m (write_head out) =
    wrote_by m.chip m.ram m.queues (write_head_answer m.chip (length m.ram) out) (write_head_text m.chip (length m.ram) out)
code m (read_head text) = read_by (read_head_called m.chip (length m.ram) text) m.ram m.queues
code m (write_voice voice out) = wrote_by m.chip m.ram m.queues (write_voice_answer m.chip m.queues voice out) (write_voice_text m.chip m.queues voice out)
code m (read_voice text) = read_by (read_voice_called m.chip m.queues text) m.ram (read_voice_queues m.chip m.queues text)
code m (read_stored_voice text) = read_by (read_stored_voice_called m.chip m.queues text) m.ram (read_stored_voice_queues m.chip m.queues text)

-- ---- what a function left is what `code` says of its call: the chip and its answer, the RAM, the queue buffer, the lent stems or sides. The values
-- ahead of the volume, which no function gives, are those that `code` reads off the definitions.
abbrev pub AsCode : Machine → Call → Called → List ℕ → List ℤ → List (List ℤ) → Type 0
AsCode m c called ram queues sides = sounded called ram queues sides (code m c).answer.values ≡ code m c

-- the same of a line written to a lent text, and of a line read
abbrev pub AsWritten : Machine → Call → LineAnswer ℕ → List ℕ → Type 0
AsWritten m c answer text = wrote_by m.chip m.ram m.queues answer text ≡ code m c

abbrev pub AsRead : Machine → Call → LineCalled → List ℕ → List ℤ → Type 0
AsRead m c called ram queues = read_by called ram queues ≡ code m c
