-- Writes of a list: what one of them makes, and where the loop stands before the next. Assumes nothing.
use mathlib.Core.Path.{◌≡◌, refl, sym, ap, ap₂, ◌∙◌}
use mathlib.Core.Bool.{Bool, true, false, cond}
use mathlib.Core.List.{List}
use Prim.Native.Nat.{ℕ, ◌+◌, ◌*◌, ◌-◌, ◌≤◌, ◌<◌}
use native.Mathlib.Numerals.{add-one}
use lib.Dec.{leb}
use lib.IntN.{ℤ}
use lib.ListN.{length, take, drop, set, get_or}
use borrow.Author.Tests.{lt-ltb, le-ltb, eq-eqb, ne_eqb}
use borrow.Rule.Slice.PartMut.{put_mid, put_same}
use Rattle.sizes.specs.Sizes.{fifo_capacity, num_channels, queue_buffer, registers_end, wavetables_size}
use Rattle.version.specs.declared.SguVersion.{SguVersion}
use Rattle.voice.specs.Writes.{empties_cache, write_control, write_control_entries, write_pcm_reg}
use Rattle.voice.specs.declared.Channel.{Channel}
use Rattle.voices.specs.Addresses.{channel_of, offset_of, is_control}
use Rattle.voices.specs.Core.{channel_at, set_wavetables, stored_channel}
use Rattle.voices.specs.Writes.{write_channel_control, write_channel_control_queues, write_channel_pcm_reg, write_wavetable, write_block, write_block_queues, write_register, write_register_queues, after_ram_write}
use Rattle.voices.specs.Lists.{block_channel, block_entries, block_empties, after_ram_writes}
use Rattle.voices.specs.declared.Core.{Core}
use Rattle.voices.proofs.Chosen.{write-in, write-pcm-in, register-low, register-block, register-above, register-queues-low, register-queues-block, register-queues-above}
use Rattle.voices.proofs.Storing.{voice-queues}

-- ---- a block's offset
module _ (offset : ℕ) where
  pub low : offset < 16 → is_control offset ≡ true
  low h = simp (lt-ltb offset 16 h)

  pub last : 16 ≤ offset → offset ≡ 26 → is_control offset ≡ true
  last g h = simp (le-ltb offset 16 g, eq-eqb offset 26 h)

  pub pcm : 16 ≤ offset → (offset ≡ 26 → ⊥) → is_control offset ≡ false
  pcm g h = simp (le-ltb offset 16 g, ne_eqb offset 26 h)

  pub empties-control : is_control offset ≡ true → empties_cache offset ≡ block_empties offset
  unfolding block_empties
  empties-control e = sym (ap (λ (t : Bool). cond t (empties_cache offset) (leb (offset - 16) 9)) e)

  pub empties-pcm : is_control offset ≡ false → leb (offset - 16) 9 ≡ block_empties offset
  unfolding block_empties
  empties-pcm e = sym (ap (λ (t : Bool). cond t (empties_cache offset) (leb (offset - 16) 9)) e)

  module _ (version : SguVersion) (c : Channel) (value : ℕ) where
    pub channel-control : is_control offset ≡ true → write_control version c offset value ≡ block_channel version c offset value
    unfolding block_channel
    channel-control e = sym (ap (λ (t : Bool). cond t (write_control version c offset value) (write_pcm_reg c (offset - 16) value)) e)

    pub channel-pcm : is_control offset ≡ false → write_pcm_reg c (offset - 16) value ≡ block_channel version c offset value
    unfolding block_channel
    channel-pcm e = sym (ap (λ (t : Bool). cond t (write_control version c offset value) (write_pcm_reg c (offset - 16) value)) e)

    module _ (q : List ℤ) where
      pub entries-control : is_control offset ≡ true → write_control_entries version c q offset value ≡ block_entries version c q offset value
      unfolding block_entries
      entries-control e = sym (ap (λ (t : Bool). cond t (write_control_entries version c q offset value) q) e)

      pub entries-pcm : is_control offset ≡ false → q ≡ block_entries version c q offset value
      unfolding block_entries
      entries-pcm e = sym (ap (λ (t : Bool). cond t (write_control_entries version c q offset value) q) e)

module _ (version : SguVersion) (k : Core) (ch offset value : ℕ) (h : ch < num_channels) where
  pub block-stored : stored_channel k ch (block_channel version (channel_at k ch) offset value) (block_empties offset) ≡ write_block version k ch offset value
  unfolding block_channel block_empties write_block
  block-stored = by (is_control offset)
    where
      by : (t : Bool) → stored_channel k ch (cond t (write_control version (channel_at k ch) offset value) (write_pcm_reg (channel_at k ch) (offset - 16) value)) (cond t (empties_cache offset) (leb (offset - 16) 9))
          ≡ cond t (write_channel_control version k ch offset value) (write_channel_pcm_reg k ch (offset - 16) value)
      by true = write-in k ch version offset value h
      by false = write-pcm-in k ch (offset - 16) value h

  pub block-queues : (q ys : List ℤ) → length q ≡ queue_buffer → ys ≡ block_entries version (channel_at k ch) (take (ch * fifo_capacity + fifo_capacity - ch * fifo_capacity) (drop (ch * fifo_capacity) q)) offset value
      → put_mid (ch * fifo_capacity) (ch * fifo_capacity + fifo_capacity - ch * fifo_capacity) q ys ≡ write_block_queues version k q ch offset value
  unfolding block_entries write_block_queues
  block-queues q ys n e = by (is_control offset) e
    where
      by : (t : Bool) → ys ≡ cond t (write_control_entries version (channel_at k ch) (take (ch * fifo_capacity + fifo_capacity - ch * fifo_capacity) (drop (ch * fifo_capacity) q)) offset value) (take (ch * fifo_capacity + fifo_capacity - ch * fifo_capacity) (drop (ch * fifo_capacity) q))
          → put_mid (ch * fifo_capacity) (ch * fifo_capacity + fifo_capacity - ch * fifo_capacity) q ys ≡ cond t (write_channel_control_queues version k q ch offset value) q
      by true e = voice-queues version k q ys ch offset value h n e
      by false e = ap (put_mid (ch * fifo_capacity) (ch * fifo_capacity + fifo_capacity - ch * fifo_capacity) q) e ∙ put_same (ch * fifo_capacity) (ch * fifo_capacity + fifo_capacity - ch * fifo_capacity) q

-- ---- one register
pub record Wrote (version : SguVersion) (k : Core) (q : List ℤ) (address value : ℕ) (r : Core) (l : List ℤ) : Type 0 where
  pub core : r ≡ write_register version k address value
  pub queues : l ≡ write_register_queues version k q address value

module _ (version : SguVersion) (k : Core) (q : List ℤ) (address value : ℕ) (r : Core) (l : List ℤ) where
  pub wrote-wavetable : address < wavetables_size → r ≡ set_wavetables k (set k.wavetables address value) → l ≡ q → Wrote version k q address value r l
  unfolding write_wavetable
  wrote-wavetable h e f = record { core = e ∙ register-low version k address value h; queues = f ∙ register-queues-low version k address value q h }

  pub wrote-block : (ch offset : ℕ) (c : Channel) (t : Bool) (ys : List ℤ) → length q ≡ queue_buffer → wavetables_size ≤ address → address < registers_end → ch < num_channels → ch ≡ channel_of address → offset ≡ offset_of address
      → c ≡ block_channel version (channel_at k ch) offset value → t ≡ block_empties offset → ys ≡ block_entries version (channel_at k ch) (take (ch * fifo_capacity + fifo_capacity - ch * fifo_capacity) (drop (ch * fifo_capacity) q)) offset value
      → r ≡ stored_channel k ch c t → l ≡ put_mid (ch * fifo_capacity) (ch * fifo_capacity + fifo_capacity - ch * fifo_capacity) q ys → Wrote version k q address value r l
  wrote-block ch offset c t ys n g h m a b e d i x y = record {
    core =
        x ∙ ap₂ (stored_channel k ch) e d ∙ block-stored version k ch offset value m
        ∙ ap₂ (λ (u v : ℕ). write_block version k u v value) a b ∙ register-block version k address value g h;
    queues =
        y ∙ block-queues version k ch offset value m q ys n i
        ∙ ap₂ (λ (u v : ℕ). write_block_queues version k q u v value) a b ∙ register-queues-block version k address value q g h;
  }

  pub wrote-above : wavetables_size ≤ address → registers_end ≤ address → r ≡ k → l ≡ q → Wrote version k q address value r l
  wrote-above g h e f = record { core = e ∙ register-above version k address value g h; queues = f ∙ register-queues-above version k address value q g h }

-- ---- byte after byte: a core that has the first i of them
pub none-stored : (ram : ℕ) (addresses : List ℕ) (k : Core) → k ≡ after_ram_writes ram 0 addresses k
unfolding after_ram_writes
none-stored ram addresses k = refl

module _ (ram : ℕ) (addresses : List ℕ) (k : Core) (i : ℕ) (b x : Core) (e : b ≡ after_ram_writes ram i addresses k) where
  pub byte-in : get_or addresses i 0 < ram → x ≡ after_ram_write b (get_or addresses i 0) → x ≡ after_ram_writes ram (i + 1) addresses k
  unfolding after_ram_writes
  byte-in h w = w ∙ ap (λ (y : Core). after_ram_write y (get_or addresses i 0)) e ∙ rw (add-one i, lt-ltb (get_or addresses i 0) ram h) refl

  pub byte-out : ram ≤ get_or addresses i 0 → x ≡ b → x ≡ after_ram_writes ram (i + 1) addresses k
  unfolding after_ram_writes
  byte-out h w = w ∙ e ∙ rw (add-one i, le-ltb (get_or addresses i 0) ram h) refl
