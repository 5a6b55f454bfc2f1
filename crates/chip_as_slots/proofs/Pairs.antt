-- A call on one of the code's cores, or on both, is that call of the pair; turns and frames of its cores are the pair's. Assumes nothing.
use mathlib.Core.Path.{◌≡◌, refl, sym, ap, ap₂, ◌∙◌, subst}
use mathlib.Core.Bool.{Bool, true, false, cond, ◌&&◌}
use mathlib.Core.List.{List, [], ◌∷◌, map}
use Prim.Native.Nat.{ℕ, ◌+◌, ◌*◌, ◌/◌, ◌%◌, ◌<◌, ◌≤◌}
use native.Mathlib.Omega.{arith}
use lib.Dec.{ltb}
use lib.IntN.{ℤ, pos}
use lib.ListN.{length, set, replicate}
use lib.Seq.{sets, get_or-set_same, get_or-set_other, set_out}
use borrow.Author.Tests.{ltb-true}
use Rattle.sizes.specs.Sizes.{num_channels, queue_buffer, stems_per_frame}
use Rattle.cores.specs.Sizes.{num_cores, chip_voices, chip_queues}
use Rattle.endings.specs.Sets.{set_of}
use Rattle.version.specs.Versions.{core_count}
use Rattle.version.specs.declared.SguVersion.{SguVersion}
use Rattle.voices.specs.Accepted.{SizedCore}
use Rattle.voices.specs.declared.Core.{Core}
use Rattle.voices.proofs.Widths.{width-own, width-other}
use Rattle.frames.specs.Turning as turning
use Rattle.frames.proofs.Parts.{part_length}
use Rattle.frame_reports.specs.Values.{turned_values, frames_values}
use Rattle.plain_chip.specs.Lists.{Every}
use Rattle.plain_chip.specs.Chips as chips
use Rattle.plain_chip.specs.Frames.{ModelTurns}
use Rattle.plain_chip.specs.Frames as plays
use Rattle.plain_chip.specs.Good.{ChipOk}
use Rattle.pair_chip.specs.Pairs.{core_of, core_chip, with_cores, on_core, of_core, on_all, core_tick, ticked, core_frames, framed, silent_turns}
use Rattle.pair_chip.proofs.Pairs.{Alike, ok-core}
use Rattle.slots.specs.Slots.{Slot}
use Rattle.slots.specs.Models.{slots, SlotChip, SlotPair}
use Rattle.slots.specs.Good.{SlotOk, SlotPairOk}
use Rattle.slots.proofs.Slots.{slots-plain}
use Rattle.chip_as_slots.specs.Whole.{row, slots_of, slot_chip_of}
use Rattle.chip_as_slots.specs.Pairs.{no_core, core_at, core_queues, pair_world}
use Rattle.chip_as_slots.proofs.Rows.{row_at, row-set, row_same, map_row}
use Rattle.chip_as_slots.proofs.Frames.{SameTurns, turned-from, frames-same}

module _ (version : SguVersion) (cores : List Core) (ram : List ℕ) (q : List ℤ) where
  abbrev w : SlotPair
  w = pair_world version cores ram q

  -- core i with the version and the RAM
  abbrev own : ℕ → SlotChip
  own i = slot_chip_of version (core_at cores i) ram (core_queues i q)

  pub core-slots : (i : ℕ) → i < num_cores → core_of w i ≡ slots_of (core_at cores i) (core_queues i q)
  core-slots i h = row_at num_cores (λ j. slots_of (core_at cores j) (core_queues j q)) i [] h

  own-chip : (i : ℕ) → i < num_cores → core_chip w (core_of w i) ≡ own i
  own-chip i h = ap (core_chip w) (core-slots i h)

  -- ---- what is told of a core
  pub core-told : {B : Type 0} (i : ℕ) (none : B) (f : SlotChip → B) → of_core i none f w ≡ cond (ltb i num_cores) (f (own i)) none
  core-told {B} i none f = go (ltb i num_cores) refl
    where
      go : (t : Bool) → ltb i num_cores ≡ t → cond t (f (core_chip w (core_of w i))) none ≡ cond t (f (own i)) none
      go true e = ap f (own-chip i (ltb-true i num_cores e))
      go false e = refl

  -- ---- a call on core i, over the queue buffer p that it leaves
  module _ (two : length cores ≡ num_cores) (i : ℕ) (here : i < num_cores) where
    pub core-changed : (core : Core) (p : List ℤ) (f : SlotChip → SlotChip) → ((j : ℕ) → (j ≡ i → ⊥) → core_queues j p ≡ core_queues j q) → slot_chip_of version core ram (core_queues i p) ≡ f (own i)
        → pair_world version (set cores i core) ram p ≡ on_core i f w
    core-changed core p f o e =
        ap (with_cores w)
        (row-set num_cores (λ j. slots_of (core_at cores j) (core_queues j q)) (λ j. slots_of (core_at (set cores i core) j) (core_queues j p)) i (f (core_chip w (core_of w i))).voices
        (λ h. ap (λ (k : Core). slots_of k (core_queues i p)) (get_or-set_same cores i core no_core (omega arith)) ∙ ap (λ (c : SlotChip). c.voices) (e ∙ sym (ap f (own-chip i here))))
        (λ j h d. ap₂ slots_of (get_or-set_other cores i j core no_core d) (o j d)))

    -- one that leaves its own entries of it in place of theirs
    pub core-put : length q ≡ chip_queues → (core : Core) (entries : List ℤ) (f : SlotChip → SlotChip) → length entries ≡ queue_buffer → slot_chip_of version core ram entries ≡ f (own i)
        → pair_world version (set cores i core) ram (sets q (i * queue_buffer) entries) ≡ on_core i f w
    core-put long core entries f n e =
        core-changed core (sets q (i * queue_buffer) entries) f (λ j d. width-other queue_buffer q entries i j n d) (ap (slot_chip_of version core ram) (width-own queue_buffer q entries i n (omega arith)) ∙ e)

    -- one that leaves it as it is
    pub core-set : (core : Core) (f : SlotChip → SlotChip) → slot_chip_of version core ram (core_queues i q) ≡ f (own i) → pair_world version (set cores i core) ram q ≡ on_core i f w
    core-set core f e = core-changed core q f (λ j d. refl) e

  -- a core above 1 is none
  pub core-none : (i : ℕ) (f : SlotChip → SlotChip) → num_cores ≤ i → on_core i f w ≡ w
  core-none i f h = ap (with_cores w) (set_out w.cores i (f (core_chip w (core_of w i))).voices h)

  -- ---- a call on both
  pub cores-put : (f : SlotChip → SlotChip) → Alike f → (version' : SguVersion) (cores' : List Core) (ram' : List ℕ) → ((i : ℕ) → i < num_cores → slot_chip_of version' (core_at cores' i) ram' (core_queues i q) ≡ f (own i))
      → pair_world version' cores' ram' q ≡ on_all f w
  cores-put f u version' cores' ram' h =
      let e = h 0 (omega arith) ∙ u (own 0) in
      let l : row num_cores (λ i. slots_of (core_at cores' i) (core_queues i q)) ≡ map (λ l. (f (core_chip w l)).voices) w.cores =
      row_same num_cores (λ i. slots_of (core_at cores' i) (core_queues i q)) (λ i. (f (own i)).voices) (λ i k. ap (λ (c : SlotChip). c.voices) (h i k))
      ∙ sym (map_row (λ l. (f (core_chip w l)).voices) num_cores (λ i. slots_of (core_at cores i) (core_queues i q))) in
      λ i. record { version = (e i).version; ram = (e i).ram; cores = l i }

  -- ---- turns and frames; a core that the version lacks is silent and is not ticked
  module _ (i : ℕ) where
    -- one tick of a voice of core i, and the values ahead of the volume
    abbrev pub tick_of : ℕ → turning.Turns
    tick_of ch = cond (ltb i (core_count version) && ltb ch num_channels) (turning.turned version ram (core_queues i q) ch 1 1 (core_at cores i)) (turning.no_turn (core_at cores i))

    abbrev pub tick_values_of : ℕ → List ℤ
    tick_values_of ch = cond (ltb i (core_count version) && ltb ch num_channels) (turned_values version ram (core_queues i q) ch 1 1 (core_at cores i)) []

    -- n frames of core i
    abbrev pub frames_of : ℕ → turning.Turns
    frames_of n =
        cond (ltb i (core_count version)) (turning.frames version ram (core_queues i q) n (core_at cores i)) (record { core = core_at cores i; stems = replicate (stems_per_frame * n) (pos 0); sample = pos 0 })

    abbrev pub frames_values_of : ℕ → List ℤ
    frames_values_of n = cond (ltb i (core_count version)) (frames_values version ram (core_queues i q) n (core_at cores i)) []

  module _ (two : length cores ≡ num_cores) (long : length q ≡ chip_queues) (good : SlotPairOk w) where
    module _ (i : ℕ) (here : i < num_cores) (sized : SizedCore (core_at cores i)) where
      abbrev core : Core
      core = core_at cores i

      abbrev queues : List ℤ
      queues = core_queues i q

      pub ok-own : ChipOk SlotOk (core_chip w (core_of w i))
      ok-own = ok-core slots-plain w good i here

      pub long-own : length queues ≡ queue_buffer
      long-own = part_length q (i * queue_buffer) queue_buffer (omega arith)

      abbrev pub Same : turning.Turns → List ℤ → ModelTurns Slot → Type 0
      Same = SameTurns version ram queues ok-own.bytes long-own

      none : (n : ℕ) → Same (record { core = core; stems = replicate n (pos 0); sample = pos 0 }) [] (record { voices = core_of w i; stems = replicate n (pos 0); sample = pos 0; values = [] })
      none n = record { voices = sym (core-slots i here); stems = refl; sample = refl; told = refl; sized = sized; good = ok-own.voices }

      pub tick-core : (ch : ℕ) → Same (tick_of i ch) (tick_values_of i ch) (core_tick slots ch i w)
      unfolding chips.generated
      tick-core ch = go (ltb i (core_count version)) (ltb ch num_channels)
        where
          go : (s t : Bool) → Same (cond (s && t) (turning.turned version ram queues ch 1 1 core) (turning.no_turn core)) (cond (s && t) (turned_values version ram queues ch 1 1 core) [])
              (cond s (cond t (plays.turned slots version ram ch 1 1 (core_of w i)) (plays.no_turn (core_of w i))) (plays.no_turn (core_of w i)))
          go true true = turned-from version ram queues ok-own.bytes long-own ch 1 1 core (core_of w i) (sym (core-slots i here)) sized ok-own.voices
          go true false = none 0
          go false t = none 0

      pub frames-core : (n : ℕ) → Same (frames_of i n) (frames_values_of i n) (core_frames slots n i w)
      unfolding chips.clocked
      frames-core n = go (ltb i (core_count version))
        where
          go : (t : Bool) → Same (cond t (turning.frames version ram queues n core) (record { core = core; stems = replicate (stems_per_frame * n) (pos 0); sample = pos 0 })) (cond t (frames_values version ram queues n core) [])
              (cond t (plays.frames slots version ram n (core_of w i)) (silent_turns n (core_of w i)))
          go true =
              subst (λ (l : List Slot). Same (turning.frames version ram queues n core) (frames_values version ram queues n core) (plays.frames slots version ram n l)) (sym (core-slots i here))
              (frames-same version ram queues ok-own.bytes long-own n core sized (subst (Every (SlotOk version ram)) (core-slots i here) ok-own.voices))
          go false = none (stems_per_frame * n)

      -- the pair after the tick
      pub ticked-world : (ch : ℕ) → pair_world version (set cores i (tick_of i ch).core) ram q ≡ ticked slots ch i w
      ticked-world ch =
          core-set two i here (tick_of i ch).core (λ c. record { version = version; ram = ram; voices = (core_tick slots ch i w).voices })
          (λ j. record { version = version; ram = ram; voices = (tick-core ch).voices j })

    -- the pair after the frames
    pub framed-world : ((i : ℕ) → i < num_cores → SizedCore (core_at cores i)) → (n : ℕ) → pair_world version ((frames_of 0 n).core ∷ (frames_of 1 n).core ∷ []) ram q ≡ framed slots n w
    framed-world sized n =
        let e : (i : ℕ) (h : i < num_cores) → slots_of (frames_of i n).core (core_queues i q) ≡ (core_frames slots n i w).voices = λ i h. (frames-core i h (sized i h) n).voices in
        ap₂ (λ (x y : List Slot). with_cores w (x ∷ y ∷ [])) (e 0 (omega arith)) (e 1 (omega arith))

-- ---- the voices of two cores as one set
pub set-cores : (f : ℕ → ℕ → Bool) → set_of chip_voices (λ v. f (v / num_channels) (v % num_channels)) ≡ set_of num_channels (f 0) + 256 * set_of num_channels (f 1)
unfolding set_of
set-cores f = omega arith
