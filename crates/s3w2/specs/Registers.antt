-- Registers of core k by address; a core above 1 has none. `queues` is the queue buffer, or its length.
use Rattle.std.specs.Prelude.{Ok, List, ℕ, ℤ, length}
use Rattle.voices.specs.Writes.{write_register, write_register_queues}
use Rattle.voices.specs.Reads.{peek_register, after_read_register}
use Rattle.s3w2.specs.declared.Chip.{Chip}
use Rattle.s3w2.specs.declared.Called.{Called}
use Rattle.s3w2.specs.declared.Returned.TheVariants.{Done, Byte}
use Rattle.s3w2.specs.Answers.{Answer, unless, answered, called, told}
use Rattle.s3w2.specs.Refusals.{own_refusal, queues_refusal}
use Rattle.s3w2.specs.Chips.{core_at, on_core, of_core, on_queues}

unfoldable pub write_register_called : Chip → ℕ → ℕ → ℕ → ℕ → Called
write_register_called chip queues k address value =
    called (queues_refusal chip queues) chip (answered (on_core k (λ core. write_register chip.version core address value) chip) (Ok Done))

unfoldable pub write_register_buffer : Chip → List ℤ → ℕ → ℕ → ℕ → List ℤ
write_register_buffer chip queues k address value =
    unless (queues_refusal chip (length queues)) queues (on_queues k (λ own. write_register_queues chip.version (core_at chip k) own address value) queues)

unfoldable pub read_register_called : Chip → ℕ → ℕ → Called
read_register_called chip k address =
    called (own_refusal chip) chip (answered (on_core k (λ core. after_read_register core address) chip) (Ok (Byte (of_core k 0 (λ core. peek_register chip.version core address) chip))))

unfoldable pub peek_register_answer : Chip → ℕ → ℕ → Answer
peek_register_answer chip k address = told (own_refusal chip) (Ok (Byte (of_core k 0 (λ core. peek_register chip.version core address) chip)))
