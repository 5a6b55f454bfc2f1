-- One of the eight voices changed with its parts of the tables and of the queue buffer, none of them, or all alike. Assumes nothing.
use mathlib.Core.Path.{◌≡◌, sym, ap, ap₂, ◌∙◌}
use mathlib.Core.List.{List, map}
use Prim.Native.Nat.{ℕ, ◌*◌, ◌≤◌, ◌<◌}
use native.Mathlib.Omega.{arith}
use lib.IntN.{ℤ}
use lib.ListN.{length, get_or, set, length-set}
use lib.Seq.{sets, length-sets, get_or-set_same, get_or-set_other, set_out}
use Rattle.sizes.specs.Sizes.{fifo_capacity, num_channels, queue_buffer}
use Rattle.voices.specs.Core.{no_channel}
use Rattle.voices.specs.Accepted.{SizedCore}
use Rattle.voices.specs.Own.{Voice, voice, voice_at, queue_at, Changed, ChangedAll}
use Rattle.voices.specs.declared.Core.{Core}
use Rattle.voices.proofs.Widths.{width-own, width-other}
use Rattle.slots.specs.Slots.{Slot, empty_slot}
use Rattle.plain_chip.specs.Lists.{adjust}
use Rattle.chip_as_slots.specs.Whole.{slot_with, slot_at, slots_of}
use Rattle.chip_as_slots.proofs.Rows.{length-row, row_at, row-set, row_same, map_row}

pub length-slots : (k : Core) (q : List ℤ) → length (slots_of k q) ≡ 8
unfolding slots_of
length-slots k q = length-row num_channels (slot_at k q)

pub slot-at : (k : Core) (q : List ℤ) (ch : ℕ) → ch < num_channels → get_or (slots_of k q) ch empty_slot ≡ slot_at k q ch
unfolding slots_of
slot-at k q ch h = row_at 8 (slot_at k q) ch empty_slot h

module _ (k : Core) (q : List ℤ) where
  pub none-changed : (ch : ℕ) (f : Slot → Slot) → 8 ≤ ch → slots_of k q ≡ adjust empty_slot ch f (slots_of k q)
  none-changed ch f h = sym (set_out (slots_of k q) ch (f (get_or (slots_of k q) ch empty_slot)) (omega (arith, length-slots k q)))

  pub one_set : {r : Core} {ch : ℕ} {v : Voice} (p : List ℤ) (s : Slot) → Changed k r ch v → ((j : ℕ) → (j ≡ ch → ⊥) → queue_at p j ≡ queue_at q j) → slot_with v (queue_at p ch) ≡ s
      → slots_of r p ≡ set (slots_of k q) ch s
  unfolding slots_of
  one_set {r} {ch} {v} p s m o e =
      row-set 8 (slot_at k q) (slot_at r p) ch s (λ h. ap (λ (x : Voice). slot_with x (queue_at p ch)) m.own ∙ e) (λ j h n. ap₂ slot_with (m.others j n) (o j n))

  -- a voice changed by f where it stands
  pub one-changed : {r : Core} {ch : ℕ} {v : Voice} (p : List ℤ) (f : Slot → Slot) → ch < num_channels → Changed k r ch v → ((j : ℕ) → (j ≡ ch → ⊥) → queue_at p j ≡ queue_at q j) → slot_with v (queue_at p ch) ≡ f (slot_at k q ch)
      → slots_of r p ≡ adjust empty_slot ch f (slots_of k q)
  one-changed {r} {ch} {v} p f h m o e = one_set p (f (slot_at k q ch)) m o e ∙ ap (λ (s : Slot). set (slots_of k q) ch (f s)) (sym (slot-at k q ch h))

  pub all_changed : {r : Core} {g : Voice → Voice} (f : Slot → Slot) → ChangedAll k r g → ((v : Voice) (p : List ℤ) → slot_with (g v) p ≡ f (slot_with v p)) → slots_of r q ≡ map f (slots_of k q)
  unfolding slots_of
  all_changed {r} {g} f m e =
      row_same 8 (slot_at r q) (λ j. f (slot_at k q j)) (λ j h. ap (λ (v : Voice). slot_with v (queue_at q j)) (m.each j h) ∙ e (voice_at k j) (queue_at q j)) ∙ sym (map_row f 8 (slot_at k q))

-- ---- a voice put in its place
abbrev pub put_core : Core → ℕ → Slot → Core
put_core k ch s = record {
  channels = set k.channels ch s.channel;
  fragments = sets k.fragments (ch * 128) s.fragments;
  wavetables = sets k.wavetables (ch * 256) s.wavetable;
}

abbrev pub put_queues : List ℤ → ℕ → Slot → List ℤ
put_queues q ch s = sets q (ch * fifo_capacity) s.queue

-- a voice's parts as long as they are in the chip
pub record Long (s : Slot) : Type 0 where
  pub fragments : length s.fragments ≡ 128
  pub wavetable : length s.wavetable ≡ 256
  pub queue : length s.queue ≡ fifo_capacity

module _ (k : Core) (q : List ℤ) (sized : SizedCore k) (long : length q ≡ queue_buffer) (ch : ℕ) (here : ch < num_channels) (s : Slot) (l : Long s) where
  pub put-voice : Changed k (put_core k ch s) ch (voice s.channel s.fragments s.wavetable)
  put-voice = record {
    own = λ i. voice
        (get_or-set_same k.channels ch s.channel no_channel (omega (arith, sized.channels)) i)
        (width-own 128 k.fragments s.fragments ch l.fragments (omega (arith, sized.fragments)) i)
        (width-own 256 k.wavetables s.wavetable ch l.wavetable (omega (arith, sized.wavetables)) i);
    others = λ j d i. voice
        (get_or-set_other k.channels ch j s.channel no_channel d i)
        (width-other 128 k.fragments s.fragments ch j l.fragments d i)
        (width-other 256 k.wavetables s.wavetable ch j l.wavetable d i);
    sized = record {
      channels = length-set k.channels ch s.channel ∙ sized.channels;
      fragments = length-sets k.fragments (ch * 128) s.fragments ∙ sized.fragments;
      wavetables = length-sets k.wavetables (ch * 256) s.wavetable ∙ sized.wavetables;
    };
  }

  pub put-slots : slots_of (put_core k ch s) (put_queues q ch s) ≡ set (slots_of k q) ch s
  put-slots =
      one_set k q (put_queues q ch s) s put-voice (λ j d. width-other fifo_capacity q s.queue ch j l.queue d)
      (ap (slot_with (voice s.channel s.fragments s.wavetable)) (width-own fifo_capacity q s.queue ch l.queue (omega arith)))
