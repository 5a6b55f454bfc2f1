-- A second chip that reads a session.
use Rattle.std.specs.Prelude.{◌≡◌, List, ◌∷◌, map, ℕ, length}
use Rattle.sizes.specs.Sizes.{num_channels}
use Rattle.cores.specs.Sizes.{num_cores}
use Rattle.version.specs.declared.SguVersion.{SguVersion}
use Rattle.plain_chip.specs.Lists.{Every}
use Rattle.slots.specs.Slots.{Slot}
use Rattle.slots.specs.Models.{slots, SlotPair}
use Rattle.slots.specs.Good.{AcceptedSlot}
use Rattle.call_lists.specs.Seen.{Seen}
use Rattle.call_lists.specs.Runs.{after}
use Rattle.call_lists.specs.Texts.{Texts}
use Rattle.call_lists.specs.Calls.{read_head, read_voice, run}

-- a chip that reads a session's head and then its lines, in order
abbrev pub slot_resumed : Texts → SlotPair → Seen → SlotPair
slot_resumed t w s = after (run slots t) w (read_head s.head ∷ map read_voice s.lines)

-- a second chip in any accepted state: of its caches nothing is known
pub record AcceptedCore (version : SguVersion) (ram : ℕ) (l : List Slot) : Type 0 where
  pub voices : Every (AcceptedSlot version ram) l
  pub eight : length l ≡ num_channels

pub record Accepted (w : SlotPair) : Type 0 where
  pub cores : Every (AcceptedCore w.version (length w.ram)) w.cores
  pub two : length w.cores ≡ num_cores
