-- The RAM: a byte written, a byte read. An address past its end is none.
use Rattle.std.specs.Prelude.{Ok, cond, List, ℕ, ltb, length, set, get_or}
use Rattle.voices.specs.Writes.{after_ram_write}
use Rattle.s3w2.specs.declared.Chip.{Chip}
use Rattle.s3w2.specs.declared.Called.{Called}
use Rattle.s3w2.specs.declared.Returned.TheVariants.{Done, Byte}
use Rattle.s3w2.specs.Answers.{Answer, unless, answered, called, told}
use Rattle.s3w2.specs.Refusals.{ram_refusal}
use Rattle.s3w2.specs.Chips.{on_both}

-- each stream that has the byte begins anew, on either core; `ram` is the RAM's length
unfoldable pub write_pcm_ram_called : Chip → ℕ → ℕ → Called
write_pcm_ram_called chip ram address =
    called (ram_refusal chip ram) chip (answered (cond (ltb address ram) (on_both (λ core. after_ram_write core address) chip) chip) (Ok Done))

unfoldable pub write_pcm_ram_ram : Chip → List ℕ → ℕ → ℕ → List ℕ
write_pcm_ram_ram chip ram address value = unless (ram_refusal chip (length ram)) ram (set ram address value)

unfoldable pub read_pcm_ram_answer : Chip → List ℕ → ℕ → Answer
read_pcm_ram_answer chip ram address = told (ram_refusal chip (length ram)) (Ok (Byte (get_or ram address 0)))
