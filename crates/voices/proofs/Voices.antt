-- What each operation makes of the eight voices: one is changed with its own parts of the tables, or all are alike. Assumes nothing.
use mathlib.Core.Path.{◌≡◌, refl, sym, ap, ◌∙◌, subst}
use mathlib.Core.Bool.{Bool, true, false, cond}
use mathlib.Core.List.{List}
use Prim.Native.Nat.{ℕ, zero, suc, ◌+◌, ◌*◌, ◌/◌, ◌%◌, ◌≤◌, ◌<◌}
use native.Mathlib.Omega.{arith}
use native.Mathlib.Decide.{dec_lt}
use lib.Dec.{eqb, leb, ltb}
use lib.IntN.{ℤ, pos}
use lib.ListN.{length, set, replicate, length-set, length-map, length-take, length-drop, length-replicate, get_or-replicate}
use lib.Seq.{length-sets, get_or-set_same, get_or-set_other}
use Rattle.sizes.specs.Sizes.{fifo_capacity, num_channels, queue_buffer, registers_end, wavetables_size}
use Rattle.num.specs.Lists.{part}
use Rattle.num.proofs.Choice.{cond-by}
use Rattle.version.specs.declared.SguVersion.{SguVersion}
use Rattle.stream.specs.Cache.{emptied}
use Rattle.voice.specs.Channel.{default_channel, set_stream, set_channel_version}
use Rattle.voice.specs.Reads.{streams_from, after_read}
use Rattle.voice.specs.Writes.{empties_cache, write_control, write_control_entries, write_pcm_reg}
use Rattle.voice.specs.declared.Channel.{Channel}
use Rattle.voices.specs.Addresses.{channel_of, offset_of, is_control}
use Rattle.voices.specs.Core.{fresh_core, no_channel, channel_at, set_wavetables, no_fragments, no_wavetable, stored_channel, reset_channel_at, set_core_version}
use Rattle.voices.specs.Writes.{write_channel_control, write_channel_control_queues, write_channel_pcm_reg, write_wavetable, write_block_queues, write_register_queues, after_ram_write_at, after_ram_write_to, after_ram_write}
use Rattle.voices.specs.Reads.{after_read_channel}
use Rattle.voices.specs.Accepted.{SizedCore}
use Rattle.voices.specs.Own.{Voice, voice, voice_at, queue_at, voice_stored, voice_reset, voice_under, voice_after_ram_write, voice_wavetable, Changed, ChangedAll}
use Rattle.voices.specs.declared.Core.{Core}
use Rattle.voices.proofs.Chosen.{write-in, write-pcm-in, read-in, reset-in, queues-in}
use Rattle.voices.proofs.Storing.{entries-length}
use Rattle.voices.proofs.Widths.{width-own, width-other, element-own, element-other, part-replicate, get_d-changed}

same-voice : {c d : Channel} {f g : List ℤ} {v w : List ℕ} → c ≡ d → f ≡ g → v ≡ w → voice c f v ≡ voice d g w
same-voice e h i = rw (e, h, i)

-- ---- a voice's parts begun anew
no-fragments-own : (l : List ℤ) (ch : ℕ) → length l ≡ 1024 → ch < num_channels → part (no_fragments ch l) (ch * 128) 128 ≡ replicate 128 (pos 0)
unfolding no_fragments
no-fragments-own l ch n h = width-own 128 l (replicate 128 (pos 0)) ch (length-replicate 128 (pos 0)) (omega arith)

no-fragments-other : (l : List ℤ) (ch j : ℕ) → (j ≡ ch → ⊥) → part (no_fragments ch l) (j * 128) 128 ≡ part l (j * 128) 128
unfolding no_fragments
no-fragments-other l ch j d = width-other 128 l (replicate 128 (pos 0)) ch j (length-replicate 128 (pos 0)) d

length-no-fragments : (l : List ℤ) (ch : ℕ) → length (no_fragments ch l) ≡ length l
unfolding no_fragments
length-no-fragments l ch = length-sets l (ch * 128) (replicate 128 (pos 0))

-- ---- one channel stored
module _ (k : Core) (z : SizedCore k) (ch : ℕ) (h : ch < num_channels) where
  pub stored-changed : (c : Channel) (t : Bool) → Changed k (stored_channel k ch c t) ch (voice_stored (voice_at k ch) c t)
  unfolding stored_channel
  stored-changed c t = record {
    own = same-voice (get_or-set_same k.channels ch c no_channel (omega (arith, h, z.channels))) (fragments t) refl;
    others = λ j d. same-voice (get_or-set_other k.channels ch j c no_channel d) (other t j d) refl;
    sized = record { channels = length-set k.channels ch c ∙ z.channels; fragments = long t; wavetables = z.wavetables };
  }
    where
      fragments : (t : Bool) → part (cond t (no_fragments ch k.fragments) k.fragments) (ch * 128) 128 ≡ cond t (replicate 128 (pos 0)) (part k.fragments (ch * 128) 128)
      fragments true = no-fragments-own k.fragments ch z.fragments h
      fragments false = refl

      other : (t : Bool) (j : ℕ) → (j ≡ ch → ⊥) → part (cond t (no_fragments ch k.fragments) k.fragments) (j * 128) 128 ≡ part k.fragments (j * 128) 128
      other true j d = no-fragments-other k.fragments ch j d
      other false j d = refl

      long : (t : Bool) → length (cond t (no_fragments ch k.fragments) k.fragments) ≡ 1024
      long true = length-no-fragments k.fragments ch ∙ z.fragments
      long false = z.fragments

  becomes : (v : Voice) {r x : Core} → r ≡ x → Changed k r ch v → Changed k x ch v
  becomes v e m = subst (λ (y : Core). Changed k y ch v) e m

  pub control-changed : (version : SguVersion) (offset value : ℕ) → Changed k (write_channel_control version k ch offset value) ch (voice_stored (voice_at k ch) (write_control version (channel_at k ch) offset value) (empties_cache offset))
  control-changed version offset value =
      becomes (voice_stored (voice_at k ch) (write_control version (channel_at k ch) offset value) (empties_cache offset)) (write-in k ch version offset value h)
      (stored-changed (write_control version (channel_at k ch) offset value) (empties_cache offset))

  pub pcm-changed : (offset value : ℕ) → Changed k (write_channel_pcm_reg k ch offset value) ch (voice_stored (voice_at k ch) (write_pcm_reg (channel_at k ch) offset value) (leb offset 9))
  pcm-changed offset value =
      becomes (voice_stored (voice_at k ch) (write_pcm_reg (channel_at k ch) offset value) (leb offset 9)) (write-pcm-in k ch offset value h)
      (stored-changed (write_pcm_reg (channel_at k ch) offset value) (leb offset 9))

  pub read-changed : (offset : ℕ) → Changed k (after_read_channel k ch offset) ch (voice_stored (voice_at k ch) (after_read (channel_at k ch) offset) (eqb offset 10))
  read-changed offset =
      becomes (voice_stored (voice_at k ch) (after_read (channel_at k ch) offset) (eqb offset 10)) (read-in k ch offset h) (stored-changed (after_read (channel_at k ch) offset) (eqb offset 10))

  pub reset-changed : Changed k (reset_channel_at k ch) ch voice_reset
  unfolding no_wavetable
  reset-changed =
      let m = stored-changed default_channel true in
      let n : length k.wavetables ≡ wavetables_size = z.wavetables in
      let l = k.wavetables in
      becomes voice_reset (reset-in k ch h) record {
        own = same-voice (ap (λ (v : Voice). v.channel) m.own) (ap (λ (v : Voice). v.fragments) m.own) (width-own 256 l (replicate 256 128) ch (length-replicate {A = ℕ} 256 128) (omega (arith, h, n)));
        others = λ j d. same-voice (ap (λ (v : Voice). v.channel) (m.others j d)) (ap (λ (v : Voice). v.fragments) (m.others j d)) (width-other 256 l (replicate 256 128) ch j (length-replicate {A = ℕ} 256 128) d);
        sized = record { channels = m.sized.channels; fragments = m.sized.fragments; wavetables = length-sets l (ch * 256) (replicate 256 128) ∙ n };
      }

  pub ram-at-changed : (address : ℕ) → Changed k (after_ram_write_at address k ch) ch (voice_after_ram_write address (voice_at k ch))
  unfolding after_ram_write_at
  ram-at-changed address = at (streams_from (channel_at k ch) address)
    where
      at : (t : Bool) → Changed k (cond t (stored_channel k ch (set_stream (channel_at k ch) emptied) true) k) ch (cond t (voice_stored (voice_at k ch) (set_stream (channel_at k ch) emptied) true) (voice_at k ch))
      at true = stored-changed (set_stream (channel_at k ch) emptied) true
      at false = record { own = refl; others = λ j d. refl; sized = z }

-- ---- the wavetables
module _ (k : Core) (z : SizedCore k) (at value : ℕ) where
  pub wavetable-changed : Changed k (write_wavetable k at value) (at / 256) (voice_wavetable (voice_at k (at / 256)) (at % 256) value)
  unfolding write_wavetable
  wavetable-changed =
      let e : at / 256 * 256 + at % 256 ≡ at = omega arith in
      let h : at % 256 < 256 = omega arith in
      subst (λ (i : ℕ). Changed k (set_wavetables k (set k.wavetables i value)) (at / 256) (voice_wavetable (voice_at k (at / 256)) (at % 256) value)) e record {
        own = same-voice refl refl (element-own 256 k.wavetables (at / 256) (at % 256) value h);
        others = λ j d. same-voice refl refl (element-other 256 k.wavetables (at / 256) j (at % 256) value h d);
        sized = record { channels = z.channels; fragments = z.fragments; wavetables = length-set k.wavetables (at / 256 * 256 + at % 256) value ∙ z.wavetables };
      }

-- ---- all voices
module _ (k : Core) (z : SizedCore k) where
  pub version-changed : (version : SguVersion) → ChangedAll k (set_core_version k version) (voice_under version)
  unfolding set_core_version
  version-changed version = record {
    each = λ j h. same-voice (get_d-changed (λ (c : Channel). set_channel_version c version) no_channel k.channels j (omega (arith, h, z.channels))) (part-replicate (pos 0) (j * 128) 128 1024 (omega (arith, h))) refl;
    sized = record { channels = length-map k.channels (λ (c : Channel). set_channel_version c version) ∙ z.channels; fragments = length-replicate 1024 (pos 0); wavetables = z.wavetables };
  }

  -- those that were looked at, and those that were not
  record RamTo (n : ℕ) (address : ℕ) : Type 0 where
    before : (j : ℕ) → j < n → voice_at (after_ram_write_to n k address) j ≡ voice_after_ram_write address (voice_at k j)
    after : (j : ℕ) → n ≤ j → voice_at (after_ram_write_to n k address) j ≡ voice_at k j
    sized : SizedCore (after_ram_write_to n k address)

  ram-to : (n address : ℕ) → n ≤ 8 → RamTo n address
  unfolding after_ram_write_to
  ram-to zero address h = record { before = λ j l. absurd (omega arith); after = λ j l. refl; sized = z }
  ram-to (suc n) address h = turn n address h (ram-to n address (omega arith))
    where
      turn : (n address : ℕ) → suc n ≤ 8 → RamTo n address → RamTo (suc n) address
      turn n address h t =
          let m = ram-at-changed (after_ram_write_to n k address) t.sized n (omega arith) address in
          record {
            before = λ j l. at m t j l (dec_lt j n);
            after = λ j l. m.others j (λ e. omega arith) ∙ t.after j (omega arith);
            sized = m.sized;
          }
        where
          at : Changed (after_ram_write_to n k address) (after_ram_write_at address (after_ram_write_to n k address) n) n (voice_after_ram_write address (voice_at (after_ram_write_to n k address) n)) → RamTo n address → (j : ℕ) → j < suc n → Dec (j < n) → voice_at (after_ram_write_at address (after_ram_write_to n k address) n) j ≡ voice_after_ram_write address (voice_at k j)
          at m t j l (yes i) = m.others j (λ e. omega arith) ∙ t.before j i
          at m t j l (no i) =
              let e : j ≡ n = omega arith in
              ap (λ (i : ℕ). voice_at (after_ram_write_at address (after_ram_write_to n k address) n) i) e ∙ m.own
              ∙ ap (voice_after_ram_write address) (t.after n (omega arith) ∙ ap (voice_at k) (sym e))

  pub ram-changed : (address : ℕ) → ChangedAll k (after_ram_write k address) (voice_after_ram_write address)
  ram-changed address = let t = ram-to 8 address (omega arith) in record { each = t.before; sized = t.sized }

-- ---- the queue buffer
module _ (version : SguVersion) (k : Core) (q : List ℤ) (ch offset value : ℕ) where
  pub length-queues : length (write_channel_control_queues version k q ch offset value) ≡ length q
  unfolding write_channel_control_queues
  length-queues = cond-by (λ (l : List ℤ). length l ≡ length q) (ltb ch num_channels) _ _ (λ e. length-sets q (ch * fifo_capacity) (write_control_entries version (channel_at k ch) (queue_at q ch) offset value)) (λ e. refl)

  module _ (n : length q ≡ queue_buffer) (h : ch < num_channels) where
    long : length (write_control_entries version (channel_at k ch) (queue_at q ch) offset value) ≡ fifo_capacity
    long = entries-length version (channel_at k ch) value (queue_at q ch) offset ∙ simp (length-take, length-drop) (omega arith)

    pub queue-own : queue_at (write_channel_control_queues version k q ch offset value) ch ≡ write_control_entries version (channel_at k ch) (queue_at q ch) offset value
    queue-own =
        ap (λ (l : List ℤ). queue_at l ch) (sym (queues-in k ch version offset value q h))
        ∙ width-own fifo_capacity q (write_control_entries version (channel_at k ch) (queue_at q ch) offset value) ch long (omega arith)

    pub queue-others : (j : ℕ) → (j ≡ ch → ⊥) → queue_at (write_channel_control_queues version k q ch offset value) j ≡ queue_at q j
    queue-others j d =
        ap (λ (l : List ℤ). queue_at l j) (sym (queues-in k ch version offset value q h))
        ∙ width-other fifo_capacity q (write_control_entries version (channel_at k ch) (queue_at q ch) offset value) ch j long d

pub length-register-queues : (version : SguVersion) (k : Core) (q : List ℤ) (address value : ℕ) → length (write_register_queues version k q address value) ≡ length q
unfolding write_register_queues write_block_queues
length-register-queues version k q address value =
    cond-by same (ltb address wavetables_size) _ _ (λ e. refl)
    (λ e. cond-by same (ltb address registers_end) _ _
    (λ e. cond-by same (is_control (offset_of address)) _ _ (λ e. length-queues version k q (channel_of address) (offset_of address) value) (λ e. refl))
    (λ e. refl))
  where
    same : List ℤ → Type 0
    same l = length l ≡ length q

-- ---- a fresh core
pub fresh-sized : SizedCore fresh_core
fresh-sized = record { channels = refl; fragments = length-replicate 1024 (pos 0); wavetables = length-replicate {A = ℕ} wavetables_size 128 }

pub fresh-voice : (j : ℕ) → j < num_channels → voice_at fresh_core j ≡ voice_reset
fresh-voice j h =
    same-voice (get_or-replicate num_channels j default_channel no_channel h) (part-replicate (pos 0) (j * 128) 128 1024 (omega (arith, h))) (part-replicate {A = ℕ} 128 (j * 256) 256 fifo_capacity (omega (arith, h)))
