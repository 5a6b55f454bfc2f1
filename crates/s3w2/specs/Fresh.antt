-- Chips made, reset, and under another version.
use Rattle.std.specs.Prelude.{Ok, true, List, [], ◌∷◌, ℕ, length}
use Rattle.version.specs.declared.SguVersion.{SguVersion}
use Rattle.tone.specs.Pcm.{is_ram_length}
use Rattle.voices.specs.Core.{reset_channel_at, set_core_version}
use Rattle.s3w2.specs.declared.Chip.{Chip}
use Rattle.s3w2.specs.declared.Called.{Called}
use Rattle.s3w2.specs.declared.Returned.TheVariants.{Done}
use Rattle.s3w2.specs.Answers.{Checked, done_unless, unless, answered, called}
use Rattle.s3w2.specs.Refusals.{refusal, own_refusal, ram_refusal}
use Rattle.s3w2.specs.Chips.{fresh_chip, core_at, on_core, zeroed}

-- `new`, `with_pcm_ram`, `with_version`: a chip is given even where the RAM's length is refused, and the RAM is then left as it is
abbrev pub made_refusal : ℕ → Checked
made_refusal ram = refusal (is_ram_length ram) true true true

unfoldable pub made_called : ℕ → SguVersion → Called
made_called ram version = answered (fresh_chip version) (done_unless (made_refusal ram))

unfoldable pub made_ram : List ℕ → List ℕ
made_ram ram = unless (made_refusal (length ram)) ram (zeroed ram)

-- both cores under another version
abbrev pub under_version : Chip → SguVersion → Chip
under_version chip version = record { version = version; cores = set_core_version (core_at chip 0) version ∷ set_core_version (core_at chip 1) version ∷ [] }

unfoldable pub set_version_called : Chip → SguVersion → Called
set_version_called chip version = called (own_refusal chip) chip (answered (under_version chip version) (Ok Done))

unfoldable pub reset_called : Chip → ℕ → Called
reset_called chip ram = called (ram_refusal chip ram) chip (answered (fresh_chip chip.version) (Ok Done))

unfoldable pub reset_ram : Chip → List ℕ → List ℕ
reset_ram chip ram = unless (ram_refusal chip (length ram)) ram (zeroed ram)

unfoldable pub reset_channel_called : Chip → ℕ → ℕ → Called
reset_channel_called chip k ch = called (own_refusal chip) chip (answered (on_core k (λ core. reset_channel_at core ch) chip) (Ok Done))
