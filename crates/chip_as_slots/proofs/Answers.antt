-- What is read of a core is what is read of the world. Assumes nothing.
use mathlib.Core.Path.{◌≡◌, refl, sym, ap, ◌∙◌}
use mathlib.Core.Bool.{Bool, true, false, cond}
use mathlib.Core.List.{List}
use Prim.Native.Nat.{ℕ, ◌+◌, ◌*◌, ◌/◌, ◌%◌, ◌<◌}
use native.Mathlib.Omega.{arith}
use lib.Dec.{ltb}
use lib.IntN.{ℤ}
use lib.ListN.{get_or, drop}
use lib.Seq.{get_or-take, get_or-drop}
use borrow.Author.Tests.{ltb-true, lt-ltb}
use Rattle.sizes.specs.Sizes.{num_channels, registers_end, wavetables_size}
use Rattle.version.specs.Versions.{has3ws8pna, has_sample_control, interpolates, wavetable_mask_of}
use Rattle.version.specs.declared.SguVersion.{SguVersion}
use Rattle.registers.specs.Pcm.{read_pcm}
use Rattle.voices.specs.Addresses.{channel_of, offset_of}
use Rattle.voices.specs.Reads.{read_channel_control, read_channel_pcm_reg, read_wavetable, peek_register, wavetable_length, interpolates_at}
use Rattle.voices.specs.declared.Core.{Core}
use Rattle.slots.specs.Slots.{Slot, empty_slot, plain_of}
use Rattle.plain_chip.specs.Voices.{plain_read}
use Rattle.slots.proofs.Writes.{same_read}
use Rattle.slots.specs.Models.{slots, SlotChip}
use Rattle.plain_chip.specs.Chips as chips
use Rattle.chip_as_slots.specs.Whole.{slot_at, slots_of, slot_chip_of}
use Rattle.chip_as_slots.proofs.Puts.{slot-at}

module _ (version : SguVersion) (k : Core) (ram : List ℕ) (q : List ℤ) where
  abbrev w : SlotChip
  w = slot_chip_of version k ram q

  -- what is told of a voice that is there
  told : {A : Type 0} (f : Slot → A) (d : A) (ch : ℕ) → cond (ltb ch num_channels) (f (slot_at k q ch)) d ≡ cond (ltb ch num_channels) (f (get_or (slots_of k q) ch empty_slot)) d
  told {A} f d ch = go (ltb ch num_channels) refl
    where
      go : (b : Bool) → ltb ch num_channels ≡ b → cond b (f (slot_at k q ch)) d ≡ cond b (f (get_or (slots_of k q) ch empty_slot)) d
      go true e = ap f (sym (slot-at k q ch (ltb-true ch 8 e)))
      go false e = refl

  pub told-control : (ch offset : ℕ) → read_channel_control version k ch offset ≡ chips.read_channel_control slots ch offset w
  unfolding read_channel_control chips.read_channel_control
  told-control ch offset = ap (λ (x : ℕ). cond (ltb ch num_channels) x 0) (same_read version offset (slot_at k q ch)) ∙ told (λ (s : Slot). plain_read version offset (plain_of s)) 0 ch

  pub told-pcm : (ch offset : ℕ) → read_channel_pcm_reg k ch offset ≡ chips.read_channel_pcm_reg slots ch offset w
  unfolding read_channel_pcm_reg chips.read_channel_pcm_reg
  told-pcm ch offset = told (λ (s : Slot). read_pcm s.channel.pcm offset) 0 ch

  pub told-length : (ch : ℕ) → wavetable_length version k ch ≡ chips.wavetable_length slots ch w
  unfolding wavetable_length chips.wavetable_length
  told-length ch = told (λ (s : Slot). wavetable_mask_of version s.channel.pcm.sample_control + 1) (cond (has_sample_control version) 0 256) ch

  pub told-interpolates : (ch : ℕ) → interpolates_at version k ch ≡ chips.interpolates_at slots ch w
  unfolding interpolates_at chips.interpolates_at
  told-interpolates ch = told (λ (s : Slot). interpolates version s.channel.pcm.sample_control) (cond (has_sample_control version) false (has3ws8pna version)) ch

  -- a byte of the wavetables, by its place among all
  pub told-wave : (at : ℕ) → at < wavetables_size → read_wavetable k at ≡ chips.read_channel_wavetable slots (at / 256) (at % 256) w
  unfolding chips.read_channel_wavetable
  told-wave at h =
      let ch : ℕ = at / 256 in
      let e : ch * 256 + at % 256 ≡ at = omega arith in
      sym (get_or-take 256 (drop (ch * 256) k.wavetables) (at % 256) 0 (omega arith) ∙ get_or-drop (ch * 256) k.wavetables (at % 256) 0 ∙ ap (λ (n : ℕ). get_or k.wavetables n 0) e)
      ∙ ap (λ (b : Bool). cond b (get_or (slot_at k q ch).wavetable (at % 256) 0) 0) (sym (lt-ltb ch num_channels (omega arith)))
      ∙ told (λ (s : Slot). get_or s.wavetable (at % 256) 0) 0 ch

  two : (a b : Bool) (x u y : ℕ) → (a ≡ true → x ≡ u) → cond a x (cond b y 0) ≡ cond a u (cond b y 0)
  two true b x u y e = e refl
  two false b x u y e = refl

  pub told-peek : (address : ℕ) → peek_register version k address ≡ chips.peek_register slots address w
  unfolding peek_register chips.peek_register
  told-peek address =
      two (ltb address wavetables_size) (ltb address registers_end) (read_wavetable k address) (chips.read_channel_wavetable slots (address / 256) (address % 256) w) (read_channel_control version k (channel_of address) (offset_of address)) (λ e. told-wave address (ltb-true address wavetables_size e))
      ∙ ap (λ (y : ℕ). cond (ltb address wavetables_size) (chips.read_channel_wavetable slots (address / 256) (address % 256) w) (cond (ltb address registers_end) y 0)) (told-control (channel_of address) (offset_of address))
