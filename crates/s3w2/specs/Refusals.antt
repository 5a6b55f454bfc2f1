-- Why a call is turned away.
use Rattle.std.specs.Prelude.{Ok, Err, Bool, true, cond, ◌&&◌, ℕ, ◌*◌, eqb}
use Rattle.sizes.specs.Sizes.{ram_most}
use Rattle.cores.specs.Sizes.{chip_queues, chip_stems}
use Rattle.tone.specs.Pcm.{is_ram_length}
use Rattle.voices.specs.Accepted.{accepts_core}
use Rattle.s3w2.specs.declared.Refusal.TheVariants.{RamLength, QueueBuffer, NotAccepted, StemBuffer}
use Rattle.s3w2.specs.declared.Chip.{Chip}
use Rattle.s3w2.specs.Answers.{Checked}
use Rattle.s3w2.specs.Chips.{core_at}

-- a state is accepted over a RAM of some length: all sixteen voices, in every version
abbrev pub accepts_chip : Chip → ℕ → Bool
accepts_chip chip length = accepts_core (core_at chip 0) chip.version length && accepts_core (core_at chip 1) chip.version length

-- document 01's table: the first of the things that a call takes and that is not as it should be; true stands for what it does not take
unfoldable pub refusal : Bool → Bool → Bool → Bool → Checked
refusal ram queues state stems = cond ram (cond queues (cond state (cond stems (Ok tt) (Err StemBuffer)) (Err NotAccepted)) (Err QueueBuffer)) (Err RamLength)

-- ---- by what a call is lent; no address of an accepted state is past the largest RAM, so its length stands for a RAM that is not lent

abbrev pub own_refusal : Chip → Checked
own_refusal chip = refusal true true (accepts_chip chip ram_most) true

abbrev pub ram_refusal : Chip → ℕ → Checked
ram_refusal chip ram = refusal (is_ram_length ram) true (accepts_chip chip ram) true

abbrev pub queues_refusal : Chip → ℕ → Checked
queues_refusal chip queues = refusal true (eqb queues chip_queues) (accepts_chip chip ram_most) true

-- RAM and queues
abbrev pub sound_refusal : Chip → ℕ → ℕ → Checked
sound_refusal chip ram queues = refusal (is_ram_length ram) (eqb queues chip_queues) (accepts_chip chip ram) true

-- and stems, 32 a frame
abbrev pub clock_refusal : Chip → ℕ → ℕ → ℕ → ℕ → Checked
clock_refusal chip ram queues frames stems = refusal (is_ram_length ram) (eqb queues chip_queues) (accepts_chip chip ram) (eqb stems (chip_stems * frames))
