-- A chip just made is a good world, and its plain chip the fresh one; a chip in an accepted state is an accepted world. Assumes nothing.
use mathlib.Core.Path.{◌≡◌, refl, sym, ap, ◌∙◌, subst}
use mathlib.Core.Bool.{true}
use mathlib.Core.List.{List, [], ◌∷◌, map}
use Prim.Native.Nat.{ℕ, ◌+◌, ◌*◌, ◌≤◌, ◌<◌}
use native.Mathlib.Omega.{arith}
use native.Mathlib.Decide.{dec_le}
use lib.IntN.{ℤ}
use lib.ListN.{length, drop, replicate, length-replicate, length-take, get_or-eq_default}
use lib.Seq.{get_or-take, get_or-drop}
use Rattle.sizes.specs.Sizes.{fifo_capacity, num_channels, queue_buffer}
use Rattle.cores.specs.Sizes.{num_cores, chip_queues}
use Rattle.num.specs.Lists.{part}
use Rattle.tone.specs.Pcm.{is_ram_length}
use Rattle.version.specs.declared.SguVersion.{SguVersion}
use Rattle.registers.specs.PlainQueue.{FitEntries}
use Rattle.voices.specs.Core.{fresh_core}
use Rattle.voices.specs.Own.{Voice, queue_at}
use Rattle.voices.proofs.Voices.{fresh-sized, fresh-voice}
use Rattle.frames.proofs.Parts.{part_length}
use Rattle.s3w2.specs.declared.Chip.{Chip}
use Rattle.s3w2.specs.Chips.{fresh_chip, core_at, core_queues}
use Rattle.s3w2.specs.Refusals.{accepts_chip}
use Rattle.s3w2.proofs.Fits.{accepted-at}
use Rattle.s3w2.proofs.Kept.{part-fits}
use Rattle.slots.specs.Slots.{fresh_slot, plain_of}
use Rattle.slots.specs.Models.{plain}
use Rattle.slots.specs.Good.{SlotOk, AcceptedSlot}
use Rattle.slots.proofs.Writes.{same-fresh, ok-fresh}
use Rattle.plain_chip.specs.Voices.{fresh_voice}
use Rattle.plain_chip.specs.Good.{Bytes, ChipOk}
use Rattle.plain_chip.proofs.Lists.{bytes-replicate}
use Rattle.pair_chip.specs.Pairs.{fresh_plain}
use Rattle.chip_as_slots.specs.Whole.{slot_with, slot_at, slots_of}
use Rattle.chip_as_slots.proofs.Rows.{row_same, row-all, every-row, map_row}
use Rattle.chip_as_slots.proofs.Puts.{length-slots}
use Rattle.call_lists.specs.Second.{Accepted}
use Rattle.call_lists.specs.Second as second
use Rattle.chip_calls.specs.Ties.{slot_pair, SizedChip, GoodMachine, Typed}
use Rattle.chip_calls.proofs.Calls.{sized-two}

-- ---- parts of what is in range
bytes-part : (l : List ℕ) (a n : ℕ) → Bytes l → Bytes (part l a n)
bytes-part l a n f = record { each = λ i. elim (dec_le n i) [ yes h ↦ subst (λ (x : ℕ). x < 256) (sym (get_or-eq_default (part l a n) 0 (past i h))) (omega arith) | no h ↦ subst (λ (x : ℕ). x < 256) (sym (get_or-take n (drop a l) i 0 (omega arith) ∙ get_or-drop a l i 0)) (f.each (a + i)) ] }
  where
    past : (i : ℕ) → n ≤ i → length (part l a n) ≤ i
    past i h = let e = length-take n (drop a l) in omega (arith, e)

-- ---- a chip just made
fresh_at : (q : List ℤ) (j : ℕ) → j < num_channels → slot_at fresh_core q j ≡ fresh_slot (queue_at q j)
fresh_at q j h = ap (λ (v : Voice). slot_with v (queue_at q j)) (fresh-voice j h)

module _ (version : SguVersion) (size : ℕ) (q : List ℤ) (long : length q ≡ chip_queues) where
  abbrev fresh : Chip
  fresh = fresh_chip version

  -- one of its cores, with its entries of the queue buffer
  abbrev own : ℕ → List ℤ
  own k = core_queues k q

  room : (k : ℕ) → k < num_cores → length (own k) ≡ queue_buffer
  room k h = part_length q (k * queue_buffer) queue_buffer (omega arith)

  core-good : FitEntries q → (k : ℕ) → k < num_cores → ChipOk SlotOk (record { version = version; ram = replicate size 0; voices = slots_of fresh_core (own k) })
  unfolding slots_of
  core-good entries k h = record {
    voices =
        let l = room k h in
        every-row (SlotOk version (replicate size 0)) 8 (slot_at fresh_core (own k))
        (λ j i. subst (SlotOk version (replicate size 0)) (sym (fresh_at (own k) j i)) (ok-fresh version (replicate size 0) (queue_at (own k) j) (part_length (own k) (j * fifo_capacity) fifo_capacity (omega (arith, l, i))) (part-fits (own k) (part-fits q entries (k * queue_buffer) queue_buffer) (j * fifo_capacity) fifo_capacity)));
    eight = length-slots fresh_core (own k);
    bytes = bytes-replicate size 0 (omega arith);
  }

  pub made_held : is_ram_length size ≡ true → FitEntries q → GoodMachine fresh (replicate size 0) q
  made_held allowed entries = record {
    allowed = ap is_ram_length (length-replicate {A = ℕ} size 0) ∙ allowed;
    sized = sized-two version fresh_core fresh_core fresh-sized fresh-sized;
    long = long;
    good = record { cores = (core-good entries 0 (omega arith), (core-good entries 1 (omega arith), tt)); two = refl };
  }

  -- the plain chip starts as the fresh chip
  core-plain : (k : ℕ) → map plain_of (slots_of fresh_core (own k)) ≡ replicate num_channels fresh_voice
  unfolding slots_of
  core-plain k = map_row plain_of 8 (slot_at fresh_core (own k)) ∙ row_same 8 _ (λ i. fresh_voice) (λ j h. ap plain_of (fresh_at (own k) j h) ∙ same-fresh (queue_at (own k) j)) ∙ row-all fresh_voice 8

  pub made_plain : plain (slot_pair fresh (replicate size 0) q) ≡ fresh_plain version size
  made_plain = λ i. record { version = version; ram = replicate size 0; cores = core-plain 0 i ∷ core-plain 1 i ∷ [] }

-- ---- a chip in an accepted state
module _ (chip : Chip) (ram : List ℕ) (q : List ℤ) (accepts : accepts_chip chip (length ram) ≡ true) (long : length q ≡ chip_queues) (typed : Typed chip q) where
  accepted-core-world : (k : ℕ) → k < num_cores → second.AcceptedCore chip.version (length ram) (slots_of (core_at chip k) (core_queues k q))
  unfolding slots_of
  accepted-core-world k h =
      let core = core_at chip k in
      let own = core_queues k q in
      let t = typed.cores k h in
      let l : length own ≡ queue_buffer = part_length q (k * queue_buffer) queue_buffer (omega arith) in
      record {
        voices = every-row (AcceptedSlot chip.version (length ram)) 8 (slot_at core own) (λ j i. record {
          accepted = (accepted-at chip (length ram) (λ k h. (typed.cores k h).sized) accepts k h).each j i;
          fits = t.fits j i;
          fragments = part_length core.fragments (j * 128) 128 (omega (arith, i, t.sized.fragments));
          table = part_length core.wavetables (j * 256) 256 (omega (arith, i, t.sized.wavetables));
          bytes = bytes-part core.wavetables (j * 256) 256 t.bytes;
          room = part_length own (j * fifo_capacity) fifo_capacity (omega (arith, i, l));
          entries = part-fits own (part-fits q typed.entries (k * queue_buffer) queue_buffer) (j * fifo_capacity) fifo_capacity;
        });
        eight = length-slots core own;
      }

  pub accepted-world : Accepted (slot_pair chip ram q)
  accepted-world = record { cores = (accepted-core-world 0 (omega arith), (accepted-core-world 1 (omega arith), tt)); two = refl }

  pub typed-sized : SizedChip chip
  typed-sized = record { two = typed.two; each = λ k h. (typed.cores k h).sized }
