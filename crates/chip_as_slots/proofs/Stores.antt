-- What crate voices does to a core and to the lent queue buffer is what the calls do to the world. Assumes nothing.
use mathlib.Core.Path.{◌≡◌, refl, sym, ap, ap₂, ◌∙◌}
use mathlib.Core.Bool.{Bool, true, false, cond}
use mathlib.Core.List.{List, map}
use Prim.Native.Nat.{ℕ, ◌-◌, ◌/◌, ◌%◌, ◌≤◌, ◌<◌}
use native.Mathlib.Omega.{arith}
use native.Mathlib.Decide.{dec_lt}
use lib.Dec.{ltb}
use lib.IntN.{ℤ}
use lib.ListN.{length, set, replicate}
use borrow.Author.Tests.{ltb-true}
use Rattle.sizes.specs.Sizes.{num_channels, queue_buffer, registers_end, wavetables_size}
use Rattle.version.specs.declared.SguVersion.{SguVersion}
use Rattle.stream.specs.Cache.{emptied}
use Rattle.voice.specs.Channel.{set_stream}
use Rattle.voice.specs.Reads.{streams_from}
use Rattle.voice.specs.Writes.{write_control, empties_cache}
use Rattle.voices.specs.Addresses.{channel_of, offset_of, is_control}
use Rattle.voices.specs.Core.{channel_at, fresh_core, reset_channel_at, set_core_version}
use Rattle.voices.specs.Writes.{write_channel_control, write_channel_control_queues, write_channel_pcm_reg, write_wavetable, write_block, write_block_queues, write_register, write_register_queues, after_ram_write}
use Rattle.voices.specs.Reads.{after_read_channel, after_read_register}
use Rattle.voices.specs.Accepted.{SizedCore}
use Rattle.voices.specs.Own.{Voice, voice_at, voice_stored, voice_reset}
use Rattle.voices.specs.declared.Core.{Core}
use Rattle.voices.proofs.Chosen.{reset-out, read_out, write-out, write-pcm-out, queues-out}
use Rattle.voices.proofs.Voices.{control-changed, pcm-changed, read-changed, reset-changed, wavetable-changed, version-changed, ram-changed, queue-own, queue-others, fresh-sized, fresh-voice}
use Rattle.slots.specs.Slots.{Slot, empty_slot, slot_write_control, slot_write_pcm, slot_after_read, slot_write_wave, slot_reset, slot_set_version, slot_poked}
use Rattle.plain_chip.specs.Lists.{adjust}
use Rattle.slots.specs.Models.{slots, SlotChip}
use Rattle.slots.proofs.Writes.{choice}
use Rattle.plain_chip.specs.Chips as chips
use Rattle.chip_as_slots.specs.Whole.{slot_with, slots_of, slot_chip_of}
use Rattle.chip_as_slots.proofs.Puts.{none-changed, one-changed, all_changed}

module _ (k : Core) (q : List ℤ) (sized : SizedCore k) where
  -- ---- one voice; one above 7 is none
  module _ (long : length q ≡ queue_buffer) (ch : ℕ) where
    either : {r : Core} {p : List ℤ} (f : Slot → Slot) → (ch < num_channels → slots_of r p ≡ adjust empty_slot ch f (slots_of k q)) → (8 ≤ ch → k ≡ r) → (8 ≤ ch → q ≡ p) → slots_of r p ≡ adjust empty_slot ch f (slots_of k q)
    either {r} {p} f g h i = elim (dec_lt ch 8) [ yes l ↦ g l | no l ↦ sym (ap₂ slots_of (h (omega arith)) (i (omega arith))) ∙ none-changed k q ch f (omega arith) ]

    module _ (version : SguVersion) (ram : List ℕ) where
      abbrev over : List Slot → SlotChip
      over l = record { version = version; ram = ram; voices = l }

      pub world-control : (offset value : ℕ)
          → slot_chip_of version (write_channel_control version k ch offset value) ram (write_channel_control_queues version k q ch offset value) ≡ chips.write_channel_control slots ch offset value (slot_chip_of version k ram q)
      unfolding chips.write_channel_control slot_write_control
      world-control offset value =
          ap over (either (slot_write_control version offset value)
          (λ h. one-changed k q (write_channel_control_queues version k q ch offset value) (slot_write_control version offset value) h (control-changed k sized ch h version offset value) (queue-others version k q ch offset value long h)
          (ap (slot_with (voice_stored (voice_at k ch) (write_control version (channel_at k ch) offset value) (empties_cache offset))) (queue-own version k q ch offset value long h)))
          (write-out k ch version offset value) (queues-out k ch version offset value q))

      pub world-pcm : (offset value : ℕ) → slot_chip_of version (write_channel_pcm_reg k ch offset value) ram q ≡ chips.write_channel_pcm_reg slots ch offset value (slot_chip_of version k ram q)
      unfolding chips.write_channel_pcm_reg slot_write_pcm
      world-pcm offset value =
          ap over (either (slot_write_pcm offset value) (λ h. one-changed k q q (slot_write_pcm offset value) h (pcm-changed k sized ch h offset value) (λ j d. refl) refl) (write-pcm-out k ch offset value) (λ h. refl))

      pub world-after-read : (offset : ℕ) → slot_chip_of version (after_read_channel k ch offset) ram q ≡ chips.after_read_channel slots ch offset (slot_chip_of version k ram q)
      unfolding chips.after_read_channel slot_after_read
      world-after-read offset =
          ap over (either (slot_after_read offset) (λ h. one-changed k q q (slot_after_read offset) h (read-changed k sized ch h offset) (λ j d. refl) refl) (read_out k ch offset) (λ h. refl))

      pub world-reset-channel : slot_chip_of version (reset_channel_at k ch) ram q ≡ chips.reset_channel slots ch (slot_chip_of version k ram q)
      unfolding chips.reset_channel slot_reset
      world-reset-channel = ap over (either slot_reset (λ h. one-changed k q q slot_reset h (reset-changed k sized ch h) (λ j d. refl) refl) (reset-out k ch) (λ h. refl))

  -- a byte of the wavetables, by its place among all
  pub world-wave : (at value : ℕ) → at < wavetables_size → (version : SguVersion) (ram : List ℕ)
      → slot_chip_of version (write_wavetable k at value) ram q ≡ chips.write_channel_wavetable slots (at / 256) (at % 256) value (slot_chip_of version k ram q)
  unfolding chips.write_channel_wavetable slot_write_wave
  world-wave at value h version ram =
      ap (λ (l : List Slot). record { version = version; ram = ram; voices = l }) (one-changed k q q (slot_write_wave (at % 256) value) (omega arith) (wavetable-changed k sized at value) (λ j d. refl) refl)

  -- ---- all voices
  pub world-version : (old version : SguVersion) (ram : List ℕ) → slot_chip_of version (set_core_version k version) ram q ≡ chips.set_version slots version (slot_chip_of old k ram q)
  unfolding chips.set_version slot_set_version
  world-version old version ram =
      ap (λ (l : List Slot). record { version = version; ram = ram; voices = l }) (all_changed k q (slot_set_version version) (version-changed k sized version) (λ v p. refl))

  -- a fresh core over the same queue buffer
  pub world-reset : (version : SguVersion) (ram : List ℕ) → slot_chip_of version fresh_core (replicate (length ram) 0) q ≡ chips.reset slots (slot_chip_of version k ram q)
  unfolding chips.reset slot_reset
  world-reset version ram =
      ap (λ (l : List Slot). record { version = version; ram = replicate (length ram) 0; voices = l })
      (all_changed k q {g = λ (v : Voice). voice_reset} slot_reset (record { each = fresh-voice; sized = fresh-sized }) (λ v p. refl))

  -- an address within the RAM
  pub world-ram : (version : SguVersion) (ram : List ℕ) (address value : ℕ) → ltb address (length ram) ≡ true
      → slot_chip_of version (after_ram_write k address) (set ram address value) q ≡ chips.write_pcm_ram slots address value (slot_chip_of version k ram q)
  unfolding chips.write_pcm_ram slot_poked
  world-ram version ram address value h =
      ap (λ (l : List Slot). record { version = version; ram = set ram address value; voices = l })
      (all_changed k q (slot_poked address) (ram-changed k sized address) (λ v p. choice (streams_from v.channel address) (λ (x : Voice). slot_with x p) (voice_stored v (set_stream v.channel emptied) true) v))
      ∙ sym (ap (λ (b : Bool). cond b (record { version = version; ram = set ram address value; voices = map (slot_poked address) (slots_of k q) }) (slot_chip_of version k ram q)) h)

  -- ---- registers by address
  module _ (long : length q ≡ queue_buffer) (version : SguVersion) (ram : List ℕ) (address : ℕ) where
    abbrev w : SlotChip
    w = slot_chip_of version k ram q

    two : (b : Bool) (x y : Core) (p r : List ℤ) (u v : SlotChip) → (b ≡ true → slot_chip_of version x ram p ≡ u) → (b ≡ false → slot_chip_of version y ram r ≡ v) → slot_chip_of version (cond b x y) ram (cond b p r) ≡ cond b u v
    two true x y p r u v e f = e refl
    two false x y p r u v e f = f refl

    pub world-register : (value : ℕ) → slot_chip_of version (write_register version k address value) ram (write_register_queues version k q address value) ≡ chips.write_register slots address value w
    unfolding write_register write_register_queues write_block write_block_queues chips.write_register
    world-register value =
        two (ltb address wavetables_size) _ _ _ _ _ _ (λ e. world-wave address value (ltb-true address wavetables_size e) version ram)
        (λ e. two (ltb address registers_end) _ _ _ _ _ _
        (λ f. two (is_control (offset_of address)) _ _ _ _ _ _ (λ g. world-control long (channel_of address) version ram (offset_of address) value) (λ g. world-pcm long (channel_of address) version ram (offset_of address - 16) value))
        (λ f. refl))

    one : (b : Bool) (x y : Core) (u v : SlotChip) → slot_chip_of version x ram q ≡ u → slot_chip_of version y ram q ≡ v → slot_chip_of version (cond b x y) ram q ≡ cond b u v
    one true x y u v e f = e
    one false x y u v e f = f

    pub world-after-register : slot_chip_of version (after_read_register k address) ram q ≡ chips.after_read_register slots address w
    unfolding after_read_register chips.after_read_register
    world-after-register =
        one (ltb address wavetables_size) k _ w _ refl (one (ltb address registers_end) _ k _ w (world-after-read long (channel_of address) version ram (offset_of address)) refl)
