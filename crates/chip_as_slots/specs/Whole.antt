-- The chip with its lent buffers as voices with their own parts.
use Rattle.std.specs.Prelude.{List, [], ◌∷◌, ℕ, zero, suc, ℤ}
use Rattle.sizes.specs.Sizes.{num_channels}
use Rattle.version.specs.declared.SguVersion.{SguVersion}
use Rattle.voices.specs.Own.{Voice, voice_at, queue_at}
use Rattle.voices.specs.declared.Core.{Core}
use Rattle.slots.specs.Slots.{Slot}
use Rattle.slots.specs.Models.{SlotChip}

-- f 0, f 1, .. : n of them
abbrev pub row : {A : Type 0} → ℕ → (ℕ → A) → List A
row zero f = []
row (suc n) f = f 0 ∷ row n (λ i. f (suc i))

-- a voice with its own entries of the queue buffer
abbrev pub slot_with : Voice → List ℤ → Slot
slot_with v queue = record { channel = v.channel; fragments = v.fragments; wavetable = v.wavetable; queue = queue }

-- voice ch of a core, with its own parts of the tables and of the queue buffer
abbrev pub slot_at : Core → List ℤ → ℕ → Slot
slot_at k q ch = slot_with (voice_at k ch) (queue_at q ch)

unfoldable pub slots_of : Core → List ℤ → List Slot
slots_of k q = row num_channels (slot_at k q)

abbrev pub slot_chip_of : SguVersion → Core → List ℕ → List ℤ → SlotChip
slot_chip_of version k ram q = record { version = version; ram = ram; voices = slots_of k q }
