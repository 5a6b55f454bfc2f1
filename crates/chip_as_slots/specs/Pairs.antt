-- The code's two cores with the lent buffers as a chip of two cores over slots.
use Rattle.std.specs.Prelude.{List, [], ℕ, ◌*◌, ℤ, get_or}
use Rattle.sizes.specs.Sizes.{queue_buffer}
use Rattle.cores.specs.Sizes.{num_cores}
use Rattle.num.specs.Lists.{part}
use Rattle.version.specs.declared.SguVersion.{SguVersion}
use Rattle.voices.specs.declared.Core.{Core}
use Rattle.slots.specs.Models.{SlotPair}
use Rattle.chip_as_slots.specs.Whole.{row, slots_of}

-- what `get_or` gives past the end of a list of cores
abbrev pub no_core : Core
no_core = record { channels = []; fragments = []; wavetables = [] }

-- core i, and its 16,384 entries of the queue buffer
abbrev pub core_at : List Core → ℕ → Core
core_at cores i = get_or cores i no_core

abbrev pub core_queues : ℕ → List ℤ → List ℤ
core_queues i q = part q (i * queue_buffer) queue_buffer

abbrev pub pair_world : SguVersion → List Core → List ℕ → List ℤ → SlotPair
pair_world version cores ram q = record { version = version; ram = ram; cores = row num_cores (λ i. slots_of (core_at cores i) (core_queues i q)) }
