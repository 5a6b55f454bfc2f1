-- The chip's sound on a good world is the list's: one voice's tick, frames of stems, frames mixed to two sides. Assumes nothing.
use Rattle.std.specs.Prelude.{Ok, Err}
use mathlib.Core.Path.{◌≡◌, refl, sym, ap, ap₂, ◌∙◌, subst}
use mathlib.Core.Bool.{Bool, true, false, cond, ◌&&◌}
use mathlib.Core.List.{List, [], ◌∷◌, ◌++◌}
use Prim.Native.Nat.{ℕ, ◌+◌, ◌*◌, ◌<◌, ◌≤◌}
use native.Mathlib.Omega.{arith}
use lib.Dec.{eqb, ltb}
use lib.IntN.{ℤ, pos}
use lib.ListN.{length, get_or, set}
use lib.Seq.{set-get_or, set_out, get_or-set_same}
use borrow.Author.Tests.{ltb-true, ltb-false, le-ltb}
use Rattle.sizes.specs.Sizes.{num_channels}
use Rattle.cores.specs.Sizes.{num_cores, chip_stems}
use Rattle.cores.specs.Stems.{paired}
use Rattle.num.proofs.Choice.{both}
use Rattle.endings.specs.Sets.{off, set_of}
use Rattle.endings.proofs.Sets.{off-none, set_same}
use Rattle.version.specs.Versions.{core_count}
use Rattle.version.specs.declared.SguVersion.{SguVersion}
use Rattle.sides.specs.Sides.{added_to, saturating, wrapping}
use Rattle.voices.specs.Core.{channel_at}
use Rattle.voices.specs.declared.Core.{Core}
use Rattle.frames.specs.Turning as turning
use Rattle.frame_reports.specs.Ending.{turned_off, frames_ended}
use Rattle.frame_reports.specs.Values.{turned_values}
use Rattle.frame_reports.proofs.Endings.{ended-active}
use Rattle.s3w2.specs.declared.Chip.{Chip}
use Rattle.s3w2.specs.declared.Called.{Called}
use Rattle.s3w2.specs.declared.Returned.TheVariants.{Done, Sample, Ended}
use Rattle.s3w2.specs.declared.Refusal.TheVariants.{StemBuffer}
use Rattle.s3w2.specs.Answers.{Answer, Checked, unless, answered, called}
use Rattle.s3w2.specs.Chips.{no_core, core_at, with_core_at, core_queues}
use Rattle.s3w2.specs.Refusals.{sound_refusal}
use Rattle.chip_sound.specs.Sound.{one_tick, one_tick_ends, generate_sample_called, silent_turns, core_frames, core_ended, framed, framed_ended, clock_called, clock_stems}
use Rattle.chip_sound.specs.Mixing.{served, mixed_side, cleared_to, mixed_answered, mixed_called, mixed_i32_called, mixed_left, mixed_right, clock_mixed_called, clock_mixed_left, clock_mixed_right}
use Rattle.chip_sound.proofs.Endings.{tick-ended}
use Rattle.slots.specs.Slots.{Slot, empty_slot}
use Rattle.slots.specs.Models.{slots, SlotPair}
use Rattle.plain_chip.specs.Frames.{ModelTurns, no_turn}
use Rattle.plain_chip.specs.Chips.{generated}
use Rattle.pair_chip.specs.Pairs as pairs
use Rattle.pair_chip.specs.Pairs.{core_of, core_chip, fields_at, core_tick, ticked}
use Rattle.pair_chip.proofs.Pairs.{count-two}
use Rattle.chip_as_slots.specs.Pairs.{pair_world}
use Rattle.chip_as_slots.proofs.Puts.{slot-at}
use Rattle.chip_as_slots.proofs.Pairs.{core-slots, Same, tick-core, frames-core, ticked-world, framed-world, set-cores}
use Rattle.call_lists.specs.Runs.{Outcome}
use Rattle.call_lists.specs.Mixing as mixes
use Rattle.call_lists.specs.Texts.{Texts}
use Rattle.call_lists.specs.Calls as list
use Rattle.call_lists.specs.Calls.{Call, run}
use Rattle.chip_calls.specs.Ties.{slot_pair, GoodMachine, reply_of, sounded}
use Rattle.chip_calls.specs.Values.{sample_call_values, core_values, framed_values, clock_call_values, mixed_call_values, clock_mixed_call_values}
use Rattle.chip_calls.proofs.Accepting.{sound_none, clock-only}
use Rattle.chip_calls.proofs.Calls.{Agrees, through, sized-put, sized-two, stays}

module _ (t : Texts) (chip : Chip) (ram : List ℕ) (queues : List ℤ) (held : GoodMachine chip ram queues) where
  abbrev w : SlotPair
  w = slot_pair chip ram queues

  abbrev version : SguVersion
  version = chip.version

  abbrev ran : Call → Outcome SlotPair list.CallAnswer
  ran c = run slots t w c

  abbrev core : ℕ → Core
  core k = core_at chip k

  abbrev own : ℕ → List ℤ
  own k = core_queues k queues

  -- ---- voices turned off: a channel of core k is active where its slot is
  active-slot : (cores : List Core) (d : SlotPair) → pair_world version cores ram queues ≡ d → (k ch : ℕ) → k < num_cores → ch < num_channels → (channel_at (get_or cores k no_core) ch).pcm.active ≡ (fields_at slots d k ch).pcm.active
  active-slot cores d e k ch h l =
      ap (λ (s : Slot). s.channel.pcm.active) (sym (slot-at (get_or cores k no_core) (own k) ch l))
      ∙ ap (λ (x : List Slot). (get_or x ch empty_slot).channel.pcm.active) (sym (core-slots version cores ram queues k h) ∙ ap (λ (p : SlotPair). core_of p k) e)

  off-slot : (cores : List Core) (d : SlotPair) → pair_world version cores ram queues ≡ d → (k ch : ℕ) → k < num_cores → ch < num_channels
      → turned_off (channel_at (core k) ch) (channel_at (get_or cores k no_core) ch) ≡ list.ended_at slots t w d k ch
  off-slot cores d e k ch h l = ap₂ off (active-slot chip.cores w refl k ch h l) (active-slot cores d e k ch h l)

  -- ---- one tick of one voice
  module _ (k ch : ℕ) where
    abbrev d : SlotPair
    d = ticked slots ch k w

    abbrev tick : ModelTurns Slot
    tick = core_tick slots ch k w

    abbrev gives : Outcome SlotPair list.CallAnswer
    gives = record { next = d; answer = list.plays (list.sample tick.sample (list.ended_at slots t w d k ch)) [] tick.values }

    abbrev sampled : Bool → Called
    sampled b = cond b (answered (with_core_at chip k (one_tick chip ram queues k ch).core) (Ok (Sample (one_tick chip ram queues k ch).sample (one_tick_ends chip ram queues k ch)))) (answered chip (Ok (Sample (pos 0) false)))

    abbrev values : Bool → List ℤ
    values b = cond b (turned_values version ram (own k) ch 1 1 (core k)) []

    -- no voice there, or none that is ticked: it does not end
    untouched : w ≡ d → tick.sample ≡ pos 0 → tick.values ≡ [] → Agrees (sounded (sampled false) ram queues [] (values false)) gives
    untouched e f g =
        let h : false ≡ list.ended_at slots t w d k ch = sym (off-none (fields_at slots w k ch).pcm.active) ∙ ap (λ (p : SlotPair). list.ended_at slots t w p k ch) e in
        stays t chip ram queues held _ gives e (λ i. list.plays (list.sample (sym f i) (h i)) [] (sym g i))

    sample-here : k < num_cores → Agrees (sounded (sampled (ltb k (core_count version) && ltb ch num_channels)) ram queues [] (values (ltb k (core_count version) && ltb ch num_channels))) gives
    sample-here h =
        go (ltb k (core_count version) && ltb ch num_channels) refl
        (ticked-world version chip.cores ram queues held.sized.two held.long held.good k h (held.sized.each k h) ch)
        (tick-core version chip.cores ram queues held.sized.two held.long held.good k h (held.sized.each k h) ch)
      where
        turns : Bool → turning.Turns
        turns b = cond b (turning.turned version ram (own k) ch 1 1 (core k)) (turning.no_turn (core k))

        go : (b : Bool) → (ltb k (core_count version) && ltb ch num_channels) ≡ b → pair_world version (set chip.cores k (turns b).core) ram queues ≡ d
            → Same version chip.cores ram queues held.sized.two held.long held.good k h (held.sized.each k h) (turns b) (values b) tick → Agrees (sounded (sampled b) ram queues [] (values b)) gives
        go true e world same =
            let l : ch < num_channels = ltb-true ch num_channels (both (ltb k (core_count version)) (ltb ch num_channels) e).1 in
            let two = held.sized.two in
            let there : get_or (set chip.cores k (turns true).core) k no_core ≡ (turns true).core = get_or-set_same chip.cores k (turns true).core no_core (omega (arith, h, two)) in
            let ends : one_tick_ends chip ram queues k ch ≡ list.ended_at slots t w d k ch =
            sym (tick-ended version ram (own k) (core k) (get_or (set chip.cores k (turns true).core) k no_core) ch (omega arith) there) ∙ off-slot (set chip.cores k (turns true).core) d world k ch h l in
            record {
              next = world;
              answer = λ i. list.plays (list.sample (same.sample i) (ends i)) [] (same.told i);
              allowed = held.allowed;
              sized = sized-put chip held.sized k (turns true).core same.sized;
              long = held.long;
            }
        go false e world same =
            untouched (ap (λ (c : List Core). pair_world version c ram queues) (sym (set-get_or chip.cores k no_core)) ∙ world) (sym same.sample) (sym same.told)

    -- a core above 1
    sample-none : num_cores ≤ k → Agrees (sounded (sampled (ltb k (core_count version) && ltb ch num_channels)) ram queues [] (values (ltb k (core_count version) && ltb ch num_channels))) gives
    sample-none h =
        let c = count-two version in
        let e : ltb k (core_count version) ≡ false = le-ltb k (core_count version) (omega (arith, h, c)) in
        subst (λ (b : Bool). Agrees (sounded (sampled (b && ltb ch num_channels)) ram queues [] (values (b && ltb ch num_channels))) gives) (sym e)
        (untouched (ap (pairs.with_cores w) (sym (set_out w.cores k tick.voices h))) (ap (λ (b : Bool). (none b).sample) e) (ap (λ (b : Bool). (none b).values) e))
      where
        none : Bool → ModelTurns Slot
        none b = cond b (generated slots ch (core_chip w (core_of w k))) (no_turn (core_of w k))

    pub tied-sample : Agrees (sounded (generate_sample_called chip ram queues k ch) ram queues [] (sample_call_values chip ram queues k ch)) (ran (list.generate_sample k ch))
    unfolding generate_sample_called sample_call_values run
    tied-sample =
        let b = ltb k (core_count version) && ltb ch num_channels in
        through (λ r. sounded (called r chip (sampled b)) ram queues [] (unless r [] (values b))) (sound_refusal chip (length ram) (length queues)) _ (sound_none chip ram queues held) (go (ltb k num_cores) refl)
      where
        go : (s : Bool) → ltb k num_cores ≡ s → Agrees (sounded (sampled (ltb k (core_count version) && ltb ch num_channels)) ram queues [] (values (ltb k (core_count version) && ltb ch num_channels))) gives
        go true e = sample-here (ltb-true k num_cores e)
        go false e = sample-none (ltb-false k num_cores e)

  -- no voice is turned off by what leaves it
  none-off : (k : ℕ) → 0 ≡ set_of num_channels (λ ch. turned_off (channel_at (core k) ch) (channel_at (core k) ch))
  unfolding set_of
  none-off k = set_same 8 (λ ch. false) (λ ch. turned_off (channel_at (core k) ch) (channel_at (core k) ch)) (λ ch h. sym (off-none (channel_at (core k) ch).pcm.active))

  -- ---- frames
  module _ (n : ℕ) where
    abbrev after : SlotPair
    after = pairs.framed slots n w

    abbrev turns : ℕ → turning.Turns
    turns k = core_frames chip ram queues n k

    same : (k : ℕ) (h : k < num_cores) → Same version chip.cores ram queues held.sized.two held.long held.good k h (held.sized.each k h) (turns k) (core_values chip ram queues n k) (pairs.core_frames slots n k w)
    same k h = frames-core version chip.cores ram queues held.sized.two held.long held.good k h (held.sized.each k h) n

    world : pair_world version ((turns 0).core ∷ (turns 1).core ∷ []) ram queues ≡ after
    world = framed-world version chip.cores ram queues held.sized.two held.long held.good held.sized.each n

    told : framed_values chip ram queues n ≡ pairs.frames_values slots n w
    told = ap₂ (λ (x y : List ℤ). x ++ y) (same 0 (omega arith)).told (same 1 (omega arith)).told

    stems : (k : ℕ) → k < num_cores → (turns k).stems ≡ (pairs.core_frames slots n k w).stems
    stems k h = (same k h).stems

    -- what is left of them
    pub frames-left : (answer : Answer) (sides lists : List (List ℤ)) (reply : list.Reply) → reply_of answer ≡ reply → sides ≡ lists
        → Agrees (sounded (answered (framed chip ram queues n) answer) ram queues sides (framed_values chip ram queues n)) (record { next = after; answer = list.plays reply lists (pairs.frames_values slots n w) })
    frames-left answer sides lists reply e f = record {
      next = world;
      answer = λ i. list.plays (e i) (f i) (told i);
      allowed = held.allowed;
      sized = sized-two version (turns 0).core (turns 1).core (same 0 (omega arith)).sized (same 1 (omega arith)).sized;
      long = held.long;
    }

    -- the voices of core k that they turn off
    core-off : (k : ℕ) → core_ended chip ram queues n k ≡ set_of num_channels (λ ch. turned_off (channel_at (core k) ch) (channel_at (turns k).core ch))
    core-off k = go (ltb k (core_count version))
      where
        go : (b : Bool) → cond b (frames_ended version ram (own k) n (core k)) 0 ≡ set_of num_channels (λ ch. turned_off (channel_at (core k) ch) (channel_at (cond b (turning.frames version ram (own k) n (core k)) (silent_turns n (core k))).core ch))
        go true = ended-active version ram (own k) n (core k)
        go false = none-off k

    off_at : (k : ℕ) → k < num_cores → (turns k).core ≡ get_or ((turns 0).core ∷ (turns 1).core ∷ []) k no_core → core_ended chip ram queues n k ≡ set_of num_channels (list.ended_at slots t w after k)
    off_at k h e =
        core-off k
        ∙ set_same 8 (λ ch. turned_off (channel_at (core k) ch) (channel_at (turns k).core ch)) (list.ended_at slots t w after k)
        (λ ch l. ap (λ (c : Core). turned_off (channel_at (core k) ch) (channel_at c ch)) e ∙ off-slot ((turns 0).core ∷ (turns 1).core ∷ []) after world k ch h l)

    frames-off : framed_ended chip ram queues n ≡ list.ended_in slots t w after
    frames-off =
        ap₂ (λ (x y : ℕ). x + 256 * y) (off_at 0 (omega arith) refl) (off_at 1 (omega arith) refl)
        ∙ sym (set-cores (list.ended_at slots t w after))

  pub tied-clock : (n : ℕ) (stems : List ℤ) → Agrees (sounded (clock_called chip ram queues n (length stems)) ram queues (clock_stems chip ram queues n stems ∷ []) (clock_call_values chip ram queues n (length stems))) (ran (list.clock n stems))
  unfolding clock_called clock_stems clock_call_values run
  tied-clock n lent =
      subst (λ (r : Checked). Agrees (sounded (called r chip (answered (framed chip ram queues n) (Ok (Ended (framed_ended chip ram queues n))))) ram queues (unless r lent (paired n (turns n 0).stems (turns n 1).stems) ∷ []) (unless r [] (framed_values chip ram queues n))) (list.clocks slots t n lent w))
      (sym (clock-only chip ram queues held n (length lent))) (go (eqb (length lent) (chip_stems * n)))
    where
      go : (b : Bool)
          → Agrees
          (sounded (called (cond b (Ok tt) (Err StemBuffer)) chip (answered (framed chip ram queues n) (Ok (Ended (framed_ended chip ram queues n))))) ram queues (unless (cond b (Ok tt) (Err StemBuffer)) lent (paired n (turns n 0).stems (turns n 1).stems) ∷ []) (unless (cond b (Ok tt) (Err StemBuffer)) [] (framed_values chip ram queues n)))
          (cond b (list.gives slots t (after n) (list.plays (list.ended (list.ended_in slots t w (after n))) (pairs.frames_stems slots n w ∷ []) (pairs.frames_values slots n w))) (list.gives slots t w (list.plays (list.refused (14 ∷ [])) (lent ∷ []) [])))
      go true = frames-left n (Ok (Ended (framed_ended chip ram queues n))) _ _ _ (ap list.ended (frames-off n)) (ap₂ (λ (x y : List ℤ). paired n x y ∷ []) (stems n 0 (omega arith)) (stems n 1 (omega arith)))
      go false = stays t chip ram queues held _ _ refl refl

  -- ---- frames mixed to two sides
  module _ (plus : ℤ → ℤ → ℤ) (left right : List ℤ) where
    side : (hand : ℕ) (l : List ℤ) → mixed_side plus chip ram queues left right hand l ≡ mixes.mixed_side slots plus (served left right) w hand l
    side hand l =
        let n = served left right in
        ap₂ (λ (x y : List ℤ). added_to plus n x y hand 0 l) (stems n 0 (omega arith)) (stems n 1 (omega arith))

    -- `clock_mixed_into` and `clock_mixed_into_i32`, by their way to add and what they answer
    tied-mixed : (answer : Answer) (reply : list.Reply) → reply_of answer ≡ reply
        → Agrees (sounded (mixed_answered plus chip ram queues left right answer) ram queues (mixed_left plus chip ram queues left right ∷ mixed_right plus chip ram queues left right ∷ []) (mixed_call_values chip ram queues left right)) (list.mixes slots t plus w left right reply)
    unfolding mixed_answered mixed_left mixed_right mixed_call_values
    tied-mixed answer reply e =
        let n = served left right in
        through (λ r. sounded (called r chip (answered (framed chip ram queues n) answer)) ram queues (unless r left (mixed_side plus chip ram queues left right 0 left) ∷ unless r right (mixed_side plus chip ram queues left right 1 right) ∷ []) (unless r [] (framed_values chip ram queues n)))
        (sound_refusal chip (length ram) (length queues)) _ (sound_none chip ram queues held)
        (frames-left n answer _ _ reply e (ap₂ (λ (x y : List ℤ). x ∷ y ∷ []) (side 0 left) (side 1 right)))

  module _ (left right : List ℤ) where
    pub tied-mixed-into : Agrees (sounded (mixed_called chip ram queues left right) ram queues (mixed_left saturating chip ram queues left right ∷ mixed_right saturating chip ram queues left right ∷ []) (mixed_call_values chip ram queues left right)) (ran (list.clock_mixed_into left right))
    unfolding run
    tied-mixed-into = tied-mixed saturating left right (Ok Done) list.done refl

    pub tied-mixed-into-i32 : Agrees (sounded (mixed_i32_called chip ram queues left right) ram queues (mixed_left wrapping chip ram queues left right ∷ mixed_right wrapping chip ram queues left right ∷ []) (mixed_call_values chip ram queues left right)) (ran (list.clock_mixed_into_i32 left right))
    unfolding run
    tied-mixed-into-i32 = tied-mixed wrapping left right _ _ (ap list.ended (frames-off (served left right)))

    -- `clock_mixed`: over sides that are zeros first
    abbrev clear : List ℤ → List ℤ
    clear side = cleared_to (served left right) side

    pub tied-clock-mixed : Agrees (sounded (clock_mixed_called chip ram queues left right) ram queues (clock_mixed_left chip ram queues left right ∷ clock_mixed_right chip ram queues left right ∷ []) (clock_mixed_call_values chip ram queues left right)) (ran (list.clock_mixed left right))
    unfolding clock_mixed_called clock_mixed_left clock_mixed_right run
    tied-clock-mixed =
        subst (λ (r : Checked). Agrees (sounded (mixed_called chip ram queues (clear left) (clear right)) ram queues (unless r left (mixed_left saturating chip ram queues (clear left) (clear right)) ∷ unless r right (mixed_right saturating chip ram queues (clear left) (clear right)) ∷ []) (mixed_call_values chip ram queues (clear left) (clear right)))
        (ran (list.clock_mixed left right))) (sym (sound_none chip ram queues held))
        (tied-mixed saturating (clear left) (clear right) (Ok Done) list.done refl)
