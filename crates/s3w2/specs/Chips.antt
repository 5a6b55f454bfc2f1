-- A chip: a fresh one, one of its cores, its cores changed; a RAM of zeros.
use Rattle.std.specs.Prelude.{cond, List, [], ◌∷◌, ℕ, ◌*◌, ltb, ℤ, length, get_or, set, replicate}
use Rattle.std.proofs.lemmas.List.Edits.{sets}
use Rattle.sizes.specs.Sizes.{queue_buffer}
use Rattle.cores.specs.Sizes.{num_cores}
use Rattle.num.specs.Lists.{part}
use Rattle.version.specs.declared.SguVersion.{SguVersion}
use Rattle.voices.specs.Core.{fresh_core}
use Rattle.voices.specs.declared.Core.{Core}
use Rattle.s3w2.specs.declared.Chip.{Chip}

abbrev pub fresh_chip : SguVersion → Chip
fresh_chip version = record { version = version; cores = fresh_core ∷ fresh_core ∷ [] }

-- what `get_or` gives past the end of a list of cores
abbrev pub no_core : Core
no_core = record { channels = []; fragments = []; wavetables = [] }

abbrev pub core_at : Chip → ℕ → Core
core_at chip k = get_or chip.cores k no_core

-- the chip with another core k
abbrev pub with_core_at : Chip → ℕ → Core → Chip
with_core_at chip k core = record { version = chip.version; cores = set chip.cores k core }

-- the chip with other cores
abbrev pub with_cores : Chip → Core → Core → Chip
with_cores chip a b = record { version = chip.version; cores = a ∷ b ∷ [] }

-- ---- a call that names a core; one above 1 is none
abbrev pub on_core : ℕ → (Core → Core) → Chip → Chip
on_core k f chip = cond (ltb k num_cores) (with_core_at chip k (f (core_at chip k))) chip

abbrev pub of_core : {A : Type 0} → ℕ → A → (Core → A) → Chip → A
of_core k none f chip = cond (ltb k num_cores) (f (core_at chip k)) none

-- a call on both
abbrev pub on_both : (Core → Core) → Chip → Chip
on_both f chip = with_cores chip (f (core_at chip 0)) (f (core_at chip 1))

-- ---- the queues of core k are the 16,384 entries from 16,384 times k on
abbrev pub core_queues : ℕ → List ℤ → List ℤ
core_queues k queues = part queues (k * queue_buffer) queue_buffer

abbrev pub on_queues : ℕ → (List ℤ → List ℤ) → List ℤ → List ℤ
on_queues k f queues = cond (ltb k num_cores) (sets queues (k * queue_buffer) (f (core_queues k queues))) queues

abbrev pub zeroed : List ℕ → List ℕ
zeroed ram = replicate (length ram) 0
