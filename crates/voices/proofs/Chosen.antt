-- What a definition says by its channel, offset or address. Assumes nothing.
use mathlib.Core.Path.{◌≡◌, sym, ap}
use mathlib.Core.Bool.{true, false}
use mathlib.Core.List.{List}
use Prim.Native.Nat.{ℕ, ◌+◌, ◌*◌, ◌≤◌, ◌<◌}
use lib.Dec.{eqb, leb}
use native.Mathlib.Omega.{arith}
use lib.IntN.{ℤ}
use lib.ListN.{length, get_or-eq_default}
use lib.Seq.{sets, set_out}
use borrow.Author.Tests.{lt-ltb, le-ltb, eq-eqb, ne_eqb}
use Rattle.sizes.specs.Sizes.{fifo_capacity, num_channels, queue_buffer, registers_end, wavetables_size}
use Rattle.num.specs.Lists.{part}
use Rattle.version.specs.Versions.{has3ws8pna, has_sample_control, interpolates, wavetable_mask_of}
use Rattle.version.specs.declared.SguVersion.{SguVersion}
use Rattle.registers.specs.Pcm.{read_pcm}
use Rattle.voice.specs.Channel.{default_channel}
use Rattle.voice.specs.Writes.{empties_cache, write_control, write_control_entries, write_pcm_reg}
use Rattle.voice.specs.Reads.{read_control, after_read}
use Rattle.voices.specs.Addresses.{channel_of, offset_of, by_address}
use Rattle.voices.specs.Core.{channel_at, set_wavetables, no_wavetable, stored_channel, reset_channel_at}
use Rattle.voices.specs.Writes.{with_queues, write_channel_control, write_channel_control_queues, write_channel_pcm_reg, write_wavetable, write_block, write_block_queues, write_register, write_register_queues}
use Rattle.voices.specs.Reads.{read_channel_control, read_channel_pcm_reg, after_read_channel, read_wavetable, wavetable_length, interpolates_at}
use Rattle.voices.specs.declared.Core.{Core}

-- ---- the queue buffer's length
module _ {A : Type 0} (q : List ℤ) (after before : A) where
  pub lent : length q ≡ queue_buffer → after ≡ with_queues q after before
  lent h = simp (eq-eqb (length q) queue_buffer h)

  pub refused : (length q ≡ queue_buffer → ⊥) → before ≡ with_queues q after before
  refused h = simp (ne_eqb (length q) queue_buffer h)

-- ---- where an address lies
module _ {A : Type 0} (address : ℕ) (x y z : A) where
  pub in-wavetables : address < wavetables_size → x ≡ by_address address x y z
  in-wavetables h = simp (lt-ltb address wavetables_size h)

  pub in_blocks : wavetables_size ≤ address → address < registers_end → y ≡ by_address address x y z
  in_blocks g h = simp (le-ltb address wavetables_size g, lt-ltb address registers_end h)

  pub above : wavetables_size ≤ address → registers_end ≤ address → z ≡ by_address address x y z
  above g h = simp (le-ltb address wavetables_size g, le-ltb address registers_end h)

-- ---- one of the eight, or none
module _ (k : Core) (ch : ℕ) where
  pub reset-in : ch < num_channels → set_wavetables (stored_channel k ch default_channel true) (no_wavetable ch k.wavetables) ≡ reset_channel_at k ch
  unfolding reset_channel_at
  reset-in h = simp (lt-ltb ch num_channels h)

  pub reset-out : 8 ≤ ch → k ≡ reset_channel_at k ch
  unfolding reset_channel_at
  reset-out h = simp (le-ltb ch num_channels h)

  module _ (offset : ℕ) where
    pub read-in : ch < num_channels → stored_channel k ch (after_read (channel_at k ch) offset) (eqb offset 10) ≡ after_read_channel k ch offset
    unfolding after_read_channel
    read-in h = simp (lt-ltb ch num_channels h)

    pub read_out : 8 ≤ ch → k ≡ after_read_channel k ch offset
    unfolding after_read_channel
    read_out h = simp (le-ltb ch num_channels h)

    pub pcm-in : ch < num_channels → read_pcm (channel_at k ch).pcm offset ≡ read_channel_pcm_reg k ch offset
    unfolding read_channel_pcm_reg
    pcm-in h = simp (lt-ltb ch num_channels h)

    pub pcm-out : 8 ≤ ch → 0 ≡ read_channel_pcm_reg k ch offset
    unfolding read_channel_pcm_reg
    pcm-out h = simp (le-ltb ch num_channels h)

    module _ (value : ℕ) where
      pub write-pcm-in : ch < num_channels → stored_channel k ch (write_pcm_reg (channel_at k ch) offset value) (leb offset 9) ≡ write_channel_pcm_reg k ch offset value
      unfolding write_channel_pcm_reg
      write-pcm-in h = simp (lt-ltb ch num_channels h)

      pub write-pcm-out : 8 ≤ ch → k ≡ write_channel_pcm_reg k ch offset value
      unfolding write_channel_pcm_reg
      write-pcm-out h = simp (le-ltb ch num_channels h)

  module _ (version : SguVersion) where
    pub length-in : ch < num_channels → wavetable_mask_of version (channel_at k ch).pcm.sample_control + 1 ≡ wavetable_length version k ch
    unfolding wavetable_length
    length-in h = simp (lt-ltb ch num_channels h)

    pub length_none : 8 ≤ ch → has_sample_control version ≡ true → 0 ≡ wavetable_length version k ch
    unfolding wavetable_length
    length_none h e = simp (le-ltb ch num_channels h, e)

    pub length-out : 8 ≤ ch → has_sample_control version ≡ false → 256 ≡ wavetable_length version k ch
    unfolding wavetable_length
    length-out h e = simp (le-ltb ch num_channels h, e)

    pub interpolates-in : ch < num_channels → interpolates version (channel_at k ch).pcm.sample_control ≡ interpolates_at version k ch
    unfolding interpolates_at
    interpolates-in h = simp (lt-ltb ch num_channels h)

    pub interpolates-none : 8 ≤ ch → has_sample_control version ≡ true → false ≡ interpolates_at version k ch
    unfolding interpolates_at
    interpolates-none h e = simp (le-ltb ch num_channels h, e)

    pub interpolates-out : 8 ≤ ch → has_sample_control version ≡ false → has3ws8pna version ≡ interpolates_at version k ch
    unfolding interpolates_at
    interpolates-out h e = simp (le-ltb ch num_channels h, e)

    module _ (offset : ℕ) where
      pub control-in : ch < num_channels → read_control version (channel_at k ch) offset ≡ read_channel_control version k ch offset
      unfolding read_channel_control
      control-in h = simp (lt-ltb ch num_channels h)

      pub control-out : 8 ≤ ch → 0 ≡ read_channel_control version k ch offset
      unfolding read_channel_control
      control-out h = simp (le-ltb ch num_channels h)

      module _ (value : ℕ) where
        pub write-in : ch < num_channels → stored_channel k ch (write_control version (channel_at k ch) offset value) (empties_cache offset) ≡ write_channel_control version k ch offset value
        unfolding write_channel_control
        write-in h = simp (lt-ltb ch num_channels h)

        pub write-out : 8 ≤ ch → k ≡ write_channel_control version k ch offset value
        unfolding write_channel_control
        write-out h = simp (le-ltb ch num_channels h)

        module _ (q : List ℤ) where
          pub queues-in : ch < num_channels → sets q (ch * fifo_capacity) (write_control_entries version (channel_at k ch) (part q (ch * fifo_capacity) fifo_capacity) offset value) ≡ write_channel_control_queues version k q ch offset value
          unfolding write_channel_control_queues
          queues-in h = simp (lt-ltb ch num_channels h)

          pub queues-out : 8 ≤ ch → q ≡ write_channel_control_queues version k q ch offset value
          unfolding write_channel_control_queues
          queues-out h = simp (le-ltb ch num_channels h)

-- ---- the wavetables
module _ (k : Core) (at : ℕ) (n : length k.wavetables ≡ wavetables_size) (h : wavetables_size ≤ at) where
  pub wavetable-out : (value : ℕ) → k ≡ write_wavetable k at value
  unfolding write_wavetable
  wavetable-out value = ap (set_wavetables k) (sym (set_out k.wavetables at value (omega arith)))

  pub no-wavetable : 0 ≡ read_wavetable k at
  no-wavetable = sym (get_or-eq_default k.wavetables 0 (omega arith))

-- ---- every address
module _ (version : SguVersion) (k : Core) (address value : ℕ) where
  pub register-low : address < wavetables_size → write_wavetable k address value ≡ write_register version k address value
  unfolding write_register
  register-low h = in-wavetables address (write_wavetable k address value) (write_block version k (channel_of address) (offset_of address) value) k h

  pub register-block : wavetables_size ≤ address → address < registers_end → write_block version k (channel_of address) (offset_of address) value ≡ write_register version k address value
  unfolding write_register
  register-block g h = in_blocks address (write_wavetable k address value) (write_block version k (channel_of address) (offset_of address) value) k g h

  pub register-above : wavetables_size ≤ address → registers_end ≤ address → k ≡ write_register version k address value
  unfolding write_register
  register-above g h = above address (write_wavetable k address value) (write_block version k (channel_of address) (offset_of address) value) k g h

  module _ (q : List ℤ) where
    pub register-queues-low : address < wavetables_size → q ≡ write_register_queues version k q address value
    unfolding write_register_queues
    register-queues-low h = in-wavetables address q (write_block_queues version k q (channel_of address) (offset_of address) value) q h

    pub register-queues-block : wavetables_size ≤ address → address < registers_end → write_block_queues version k q (channel_of address) (offset_of address) value ≡ write_register_queues version k q address value
    unfolding write_register_queues
    register-queues-block g h = in_blocks address q (write_block_queues version k q (channel_of address) (offset_of address) value) q g h

    pub register-queues-above : wavetables_size ≤ address → registers_end ≤ address → q ≡ write_register_queues version k q address value
    unfolding write_register_queues
    register-queues-above g h = above address q (write_block_queues version k q (channel_of address) (offset_of address) value) q g h
