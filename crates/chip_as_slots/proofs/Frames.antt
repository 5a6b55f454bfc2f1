-- Turns and frames of the core are those of the world: the same voices, stems, sample and values ahead of the volume. Assumes nothing.
use mathlib.Core.Path.{◌≡◌, refl, sym, ap, ap₂, ◌∙◌, subst}
use mathlib.Core.List.{List, [], ◌∷◌, ◌++◌}
use Prim.Native.Nat.{ℕ, zero, suc, ◌+◌, ◌*◌, ◌%◌, ◌<◌}
use native.Mathlib.Omega.{arith}
use lib.IntN.{ℤ}
use lib.ListN.{length, get_or, set}
use lib.Seq.{sets}
use Rattle.sizes.specs.Sizes.{fifo_capacity, num_channels, queue_buffer}
use Rattle.version.specs.declared.SguVersion.{SguVersion}
use Rattle.ticks.specs.Again.{again}
use Rattle.ticks.specs.Mix.{silence}
use Rattle.ticks.specs.declared.Sides.{Sides}
use Rattle.ticks.specs.declared.Target.{Target}
use Rattle.voices.specs.Accepted.{SizedCore}
use Rattle.voices.specs.declared.Core.{Core}
use Rattle.frames.specs.Ticking.{Voiced, voiced, voice_tick, voice_ticks}
use Rattle.frames.specs.Turning as turning
use Rattle.frame_reports.specs.Values.{tick_value, tick_values, turned_values, frames_values}
use Rattle.frames.proofs.Parts.{part-back}
use Rattle.plain_chip.specs.Lists.{Every}
use Rattle.slots.specs.Slots.{Slot, empty_slot}
use Rattle.slots.specs.Models.{slots}
use Rattle.plain_chip.specs.Ticks.{VoiceTick}
use Rattle.slots.specs.Ticks.{slot_sound, slot_stream, slot_fifo, slot_tick_as, slot_tick}
use Rattle.plain_chip.specs.Frames.{Ticking, ModelTurns}
use Rattle.plain_chip.specs.Good.{Bytes}
use Rattle.slots.specs.Good.{SlotOk}
use Rattle.plain_chip.proofs.Lists.{every_set}
use Rattle.slots.proofs.Ticks.{same-tick}
use Rattle.voice.specs.Sounding.{kind_of}
use Rattle.voice.specs.declared.Kind.{Kind}
use Rattle.voice.specs.declared.Kind.TheVariants.{Silent, Sqv4, FifoDac}
use Rattle.voice.specs.declared.Kind.TheVariants as kinds
use Rattle.plain_chip.specs.Frames as plays
use Rattle.chip_as_slots.specs.Whole.{slot_at, slots_of}
use Rattle.chip_as_slots.proofs.Rows.{row-every}
use Rattle.chip_as_slots.proofs.Puts.{Long, put_core, put_queues, slot-at, put-voice, put-slots}
use Rattle.chip_as_slots.proofs.Ticks.{tick-put, tick-value}

pub ok_at : (version : SguVersion) (ram : List ℕ) (k : Core) (q : List ℤ) → Every (SlotOk version ram) (slots_of k q) → (ch : ℕ) → ch < num_channels → SlotOk version ram (slot_at k q ch)
unfolding slots_of
ok_at version ram k q p ch h = row-every (SlotOk version ram) 8 (slot_at k q) p ch h

pub long_ok : (version : SguVersion) (ram : List ℕ) (s : Slot) → SlotOk version ram s → Long s
long_ok version ram s ok = record { fragments = ok.coherent.room; wavetable = ok.table; queue = ok.room }

module _ (version : SguVersion) (ram : List ℕ) (q : List ℤ) (bytes : Bytes ram) (long : length q ≡ queue_buffer) where
  -- ticks of one voice
  record SameTicks (a : Voiced) (values : List ℤ) (b : Ticking Slot) : Type 0 where
    pub voices : slots_of a.core q ≡ b.voices
    pub sides : a.sides ≡ b.sides
    pub told : values ≡ b.values
    pub sized : SizedCore a.core
    pub good : Every (SlotOk version ram) b.voices

  -- the queue buffer stays as it is
  queue-by : (t : Target) (sides : Sides) (s : Slot) (m : Kind) → (slot_tick_as version ram t sides m s).voice.queue ≡ s.queue
  unfolding slot_sound slot_stream slot_fifo
  queue-by t sides s Silent = refl
  queue-by t sides s kinds.Oscillator = refl
  queue-by t sides s Sqv4 = refl
  queue-by t sides s FifoDac = refl

  queue-kept : (t : Target) (sides : Sides) (s : Slot) → (slot_tick version ram t sides s).voice.queue ≡ s.queue
  unfolding slot_tick
  queue-kept t sides s = queue-by t sides s (kind_of s.channel)

  module _ (ch : ℕ) (here : ch < num_channels) where
    -- from the core's own voices on
    tick-from : (k : Core) (sides : Sides) (values : List ℤ) → SizedCore k → Every (SlotOk version ram) (slots_of k q)
        → SameTicks (voice_tick version ram q ch (voiced k sides)) (values ++ (tick_value version ram q ch (voiced k sides) ∷ [])) (plays.tick_at slots version ram ch (record { voices = slots_of k q; sides = sides; values = values }))
    unfolding plays.tick_at
    tick-from k sides values sized p =
        let t : Target = plays.modulator slots version ram (slots_of k q) ch in
        let s : Slot = slot_at k q ch in
        let r : VoiceTick Slot = slot_tick version ram t sides s in
        let ok : SlotOk version ram r.voice = (same-tick version ram t sides s (ok_at version ram k q p ch here) bytes).ok in
        let e : voice_tick version ram q ch (voiced k sides) ≡ voiced (put_core k ch r.voice) r.sides = tick-put version ram q ch here k sized sides in
        let f : put_queues q ch r.voice ≡ q = ap (sets q (ch * fifo_capacity)) (queue-kept t sides s) ∙ part-back q (ch * fifo_capacity) fifo_capacity (omega arith) in
        let l : slots_of (put_core k ch r.voice) q ≡ set (slots_of k q) ch r.voice =
        sym (ap (slots_of (put_core k ch r.voice)) f) ∙ put-slots k q sized long ch here r.voice (long_ok version ram r.voice ok) in
        let there : s ≡ get_or (slots_of k q) ch empty_slot = sym (slot-at k q ch here) in
        subst (λ (x : Slot). SameTicks (voice_tick version ram q ch (voiced k sides)) (values ++ (tick_value version ram q ch (voiced k sides) ∷ [])) (plays.with_tick ch (record { voices = slots_of k q; sides = sides; values = values }) (slot_tick version ram t sides x))) there
        (record {
          voices = ap (λ (v : Voiced). slots_of v.core q) e ∙ l;
          sides = ap (λ (v : Voiced). v.sides) e;
          told = ap (λ (x : ℤ). values ++ (x ∷ [])) (tick-value version ram q ch here k sized sides);
          sized = subst (λ (v : Voiced). SizedCore v.core) (sym e) (put-voice k q sized long ch here r.voice (long_ok version ram r.voice ok)).sized;
          good = every_set (SlotOk version ram) r.voice ok (slots_of k q) ch p;
        })

    tick-same : (a : Voiced) (values : List ℤ) (b : Ticking Slot) → SameTicks a values b → SameTicks (voice_tick version ram q ch a) (values ++ (tick_value version ram q ch a ∷ [])) (plays.tick_at slots version ram ch b)
    tick-same a values b e =
        subst (λ (x : Ticking Slot). SameTicks (voice_tick version ram q ch a) (values ++ (tick_value version ram q ch a ∷ [])) (plays.tick_at slots version ram ch x)) (λ i. record { voices = e.voices i; sides = e.sides i; values = e.told i })
        (tick-from a.core a.sides values e.sized (subst (Every (SlotOk version ram)) (sym e.voices) e.good))

    ticks-same : (n : ℕ) (a : Voiced) (b : Ticking Slot) → SameTicks a [] b → SameTicks (voice_ticks version ram q ch n a) (tick_values version ram q ch n a) (again n (plays.tick_at slots version ram ch) b)
    unfolding again voice_ticks tick_values
    ticks-same zero a b e = e
    ticks-same (suc n) a b e = tick-same (voice_ticks version ram q ch n a) (tick_values version ram q ch n a) (again n (plays.tick_at slots version ram ch) b) (ticks-same n a b e)

  -- ---- turns and frames
  pub record SameTurns (a : turning.Turns) (values : List ℤ) (b : ModelTurns Slot) : Type 0 where
    pub voices : slots_of a.core q ≡ b.voices
    pub stems : a.stems ≡ b.stems
    pub sample : a.sample ≡ b.sample
    pub told : values ≡ b.values
    pub sized : SizedCore a.core
    pub good : Every (SlotOk version ram) b.voices

  pub turned_same : (first n m : ℕ) (k : Core) → SizedCore k → Every (SlotOk version ram) (slots_of k q) → SameTurns (turning.turned version ram q first n m k) (turned_values version ram q first n m k) (plays.turned slots version ram first n m (slots_of k q))
  unfolding turning.turned plays.turned turned_values
  turned_same first n zero k sized p = record { voices = refl; stems = refl; sample = refl; told = refl; sized = sized; good = p }
  turned_same first n (suc m) k sized p =
      let a = turning.turned version ram q first n m k in
      let b = plays.turned slots version ram first n m (slots_of k q) in
      let e : SameTurns a (turned_values version ram q first n m k) b = turned_same first n m k sized p in
      let f = ticks-same ((first + m) % 8) (omega arith) n (voiced a.core silence) (record { voices = b.voices; sides = silence; values = [] }) (record { voices = e.voices; sides = refl; told = refl; sized = e.sized; good = e.good }) in
      record {
        voices = f.voices;
        stems = ap₂ (λ (l : List ℤ) (s : Sides). l ++ (s.left ∷ s.right ∷ [])) e.stems f.sides;
        sample = ap (λ (s : Sides). s.sample) f.sides;
        told = ap₂ (λ (x y : List ℤ). x ++ y) e.told f.told;
        sized = f.sized;
        good = f.good;
      }

  -- the same from voices that are told otherwise
  pub turned-from : (first n m : ℕ) (k : Core) (l : List Slot) → slots_of k q ≡ l → SizedCore k → Every (SlotOk version ram) l → SameTurns (turning.turned version ram q first n m k) (turned_values version ram q first n m k) (plays.turned slots version ram first n m l)
  turned-from first n m k l e sized p =
      subst (λ (x : List Slot). SameTurns (turning.turned version ram q first n m k) (turned_values version ram q first n m k) (plays.turned slots version ram first n m x)) e (turned_same first n m k sized (subst (Every (SlotOk version ram)) (sym e) p))

  pub frames-same : (m : ℕ) (k : Core) → SizedCore k → Every (SlotOk version ram) (slots_of k q) → SameTurns (turning.frames version ram q m k) (frames_values version ram q m k) (plays.frames slots version ram m (slots_of k q))
  unfolding turning.frames plays.frames frames_values
  frames-same zero k sized p = record { voices = refl; stems = refl; sample = refl; told = refl; sized = sized; good = p }
  frames-same (suc m) k sized p =
      let e = frames-same m k sized p in
      let f = turned-from 0 4 8 (turning.frames version ram q m k).core (plays.frames slots version ram m (slots_of k q)).voices e.voices e.sized e.good in
      record { voices = f.voices; stems = ap₂ (λ (x y : List ℤ). x ++ y) e.stems f.stems; sample = f.sample; told = ap₂ (λ (x y : List ℤ). x ++ y) e.told f.told; sized = f.sized; good = f.good }
