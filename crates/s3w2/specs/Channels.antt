-- One channel of core k written and read. A channel above 7 reads 0 and writes nothing; a core above 1 reads 0, or no, and writes nothing. `queues` is the queue buffer, or its length.
use Rattle.std.specs.Prelude.{Ok, false, cond, List, ℕ, ◌+◌, ◌*◌, ltb, ℤ, length}
use Rattle.sizes.specs.Sizes.{num_channels}
use Rattle.voices.specs.Writes.{write_channel_control, write_channel_control_queues, write_channel_pcm_reg, write_wavetable}
use Rattle.voices.specs.Reads.{read_channel_control, read_channel_pcm_reg, after_read_channel, read_wavetable, wavetable_length, interpolates_at}
use Rattle.s3w2.specs.declared.Chip.{Chip}
use Rattle.s3w2.specs.declared.Called.{Called}
use Rattle.s3w2.specs.declared.Returned.TheVariants.{Done, Byte, Count, Flag}
use Rattle.s3w2.specs.Answers.{Answer, unless, answered, called, told}
use Rattle.s3w2.specs.Refusals.{own_refusal, queues_refusal}
use Rattle.s3w2.specs.Chips.{core_at, on_core, of_core, on_queues}

unfoldable pub write_channel_wavetable_called : Chip → ℕ → ℕ → ℕ → ℕ → Called
write_channel_wavetable_called chip k ch offset value =
    called (own_refusal chip) chip (answered (cond (ltb ch num_channels) (on_core k (λ core. write_wavetable core (ch * 256 + offset) value) chip) chip) (Ok Done))

unfoldable pub read_channel_wavetable_answer : Chip → ℕ → ℕ → ℕ → Answer
read_channel_wavetable_answer chip k ch offset =
    told (own_refusal chip) (Ok (Byte (cond (ltb ch num_channels) (of_core k 0 (λ core. read_wavetable core (ch * 256 + offset)) chip) 0)))

unfoldable pub write_channel_control_called : Chip → ℕ → ℕ → ℕ → ℕ → ℕ → Called
write_channel_control_called chip queues k ch offset value =
    called (queues_refusal chip queues) chip (answered (on_core k (λ core. write_channel_control chip.version core ch offset value) chip) (Ok Done))

unfoldable pub write_channel_control_buffer : Chip → List ℤ → ℕ → ℕ → ℕ → ℕ → List ℤ
write_channel_control_buffer chip queues k ch offset value =
    unless (queues_refusal chip (length queues)) queues
    (on_queues k (λ own. write_channel_control_queues chip.version (core_at chip k) own ch offset value) queues)

unfoldable pub read_channel_control_called : Chip → ℕ → ℕ → ℕ → Called
read_channel_control_called chip k ch offset =
    called (own_refusal chip) chip (answered (on_core k (λ core. after_read_channel core ch offset) chip) (Ok (Byte (of_core k 0 (λ core. read_channel_control chip.version core ch offset) chip))))

unfoldable pub write_channel_pcm_reg_called : Chip → ℕ → ℕ → ℕ → ℕ → Called
write_channel_pcm_reg_called chip k ch offset value =
    called (own_refusal chip) chip (answered (on_core k (λ core. write_channel_pcm_reg core ch offset value) chip) (Ok Done))

unfoldable pub read_channel_pcm_reg_answer : Chip → ℕ → ℕ → ℕ → Answer
read_channel_pcm_reg_answer chip k ch offset = told (own_refusal chip) (Ok (Byte (of_core k 0 (λ core. read_channel_pcm_reg core ch offset) chip)))

unfoldable pub wavetable_length_answer : Chip → ℕ → ℕ → Answer
wavetable_length_answer chip k ch = told (own_refusal chip) (Ok (Count (of_core k 0 (λ core. wavetable_length chip.version core ch) chip)))

unfoldable pub interpolates_answer : Chip → ℕ → ℕ → Answer
interpolates_answer chip k ch = told (own_refusal chip) (Ok (Flag (of_core k false (λ core. interpolates_at chip.version core ch) chip)))
