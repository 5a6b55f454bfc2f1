-- A list of calls on voices and on the plain chip, and a second chip that has read a session. Assumes nothing but what a session's lines
-- promise (TextsOk).
use mathlib.Core.Path.{◌≡◌, refl, sym, ap, ap₂, ◌∙◌, subst}
use mathlib.Core.Bool.{Bool, true, cond}
use mathlib.Core.List.{List, [], ◌∷◌, ◌++◌, map, map-append}
use Prim.Native.Nat.{ℕ, ◌<◌}
use native.Mathlib.Omega.{arith}
use lib.ListN.{length, length-append, length-map}
use borrow.Author.Tests.{eq-eqb}
use Rattle.cores.specs.Sizes.{num_cores, chip_voices}
use Rattle.tone.specs.Pcm.{is_ram_length}
use Rattle.plain_chip.specs.Lists.{Every}
use Rattle.slots.specs.Slots.{Slot, slot_set_version, plain_of}
use Rattle.slots.specs.Models.{slots, SlotPair, plain}
use Rattle.plain_chip.specs.Voices.{PlainVoice}
use Rattle.plain_chip.specs.Models.{plains}
use Rattle.pair_chip.specs.Pairs.{Plain, core_of, core_chip, on_all}
use Rattle.pair_chip.proofs.Pairs.{core-seen, alike-set-version, ok-core}
use Rattle.plain_chip.specs.Good.{Bytes, FitVoice, ChipOk}
use Rattle.slots.specs.Good.{SlotOk, AcceptedSlot, SlotPairOk}
use Rattle.plain_chip.proofs.Lists.{every_map}
use Rattle.slots.proofs.Writes.{ok-version}
use Rattle.slots.proofs.Loads.{fit-plain}
use Rattle.slots.proofs.Slots.{slots-plain}
use Rattle.plain_chip.specs.Chips as chips
use Rattle.call_lists.specs.Runs.{after}
use Rattle.call_lists.specs.Texts.{Texts, TextsOk, HeadRead}
use Rattle.call_lists.specs.Calls.{Call, read_head, read_voice, replies, done, refused, gives, head_told, run}
use Rattle.call_lists.specs.Seen.{seen_of, voices, seen_over, FitCall}
use Rattle.call_lists.specs.Second.{slot_resumed, AcceptedCore, Accepted}
use Rattle.call_lists.proofs.Steps.{step}
use Rattle.call_lists.proofs.Loads.{split, split-seen, read_all}

map-id : {A : Type 0} (l : List A) → map (λ (x : A). x) l ≡ l
map-id [] = refl
map-id (x ∷ l) = ap (λ (m : List _). x ∷ m) (map-id l)

pub fit-lines : (lines : List (List ℕ)) → Every FitCall (map read_voice lines)
fit-lines [] = tt
fit-lines (x ∷ lines) = (tt, fit-lines lines)

every_append : {A : Type 0} (P : A → Type 0) (l m : List A) → Every P l → Every P m → Every P (l ++ m)
every_append P [] m p q = q
every_append P (x ∷ l) m p q = (p.0, every_append P l m p.1 q)

module _ (t : Texts) (texts : TextsOk t) where
  -- what is seen of a chip is what is seen of its plain chip
  pub seen_plain : (w : SlotPair) → seen_over slots t w ≡ seen_over plains t (plain w)
  seen_plain w = ap (seen_of t w.version w.ram) (map-append plain_of (core_of w 0) (core_of w 1) ∙ ap₂ (λ (l m : List PlainVoice). l ++ m) (core-seen plain_of w 0) (core-seen plain_of w 1) ∙ sym (map-id (core_of (plain w) 0 ++ core_of (plain w) 1)))

  module _ (w : SlotPair) (g : SlotPairOk w) where
    core-ok : (i : ℕ) → i < num_cores → ChipOk SlotOk (core_chip w (core_of w i))
    core-ok i h = ok-core slots-plain w g i h

    pub fit-first : Every (FitVoice w.version) (voices slots w)
    fit-first =
        every_map (SlotOk w.version w.ram) (FitVoice w.version) plain_of (λ s p. fit-plain w.version w.ram s p) (core_of w 0 ++ core_of w 1)
        (every_append (SlotOk w.version w.ram) (core_of w 0) (core_of w 1) (core-ok 0 (omega arith)).voices (core-ok 1 (omega arith)).voices)

    pub sixteen : length (voices slots w) ≡ chip_voices
    sixteen =
        length-map (core_of w 0 ++ core_of w 1) plain_of ∙ length-append (core_of w 0) (core_of w 1)
        ∙ omega (arith, (core-ok 0 (omega arith)).eight, (core-ok 1 (omega arith)).eight)

    -- its plain chip, by its sixteen voices
    pub plain-split : plain w ≡ record { version = w.version; ram = w.ram; cores = split (voices slots w) }
    plain-split = ap (λ (l : List (List PlainVoice)). record { version = w.version; ram = w.ram; cores = l }) (split-seen plain_of w.cores g.two (core-ok 0 (omega arith)).eight)

  -- ---- a list of calls
  good-after : (w : SlotPair) (cs : List Call) → SlotPairOk w → Every FitCall cs → SlotPairOk (after (run slots t) w cs)
  good-after w [] g f = g
  good-after w (c ∷ cs) g f = good-after (run slots t w c).next cs (step slots-plain t texts w g c f.0).ok f.1

  plain-after : (w : SlotPair) (cs : List Call) → SlotPairOk w → Every FitCall cs → plain (after (run slots t) w cs) ≡ after (run plains t) (plain w) cs
  plain-after w [] g f = refl
  plain-after w (c ∷ cs) g f =
      let s = step slots-plain t texts w g c f.0 in
      plain-after (run slots t w c).next cs s.ok f.1 ∙ ap (λ (p : Plain). after (run plains t) p cs) s.next

  -- ---- the second chip, once it has read the session
  module _ (first second : SlotPair) (g : SlotPairOk first) (a : Accepted second) (r : second.ram ≡ first.ram) (allowed : is_ram_length (length first.ram) ≡ true) where
    -- the head empties every cache
    abbrev headed : SlotPair
    headed = on_all (chips.set_version slots first.version) second

    pub head-read : (run slots t second (read_head (t.head_text first.version (length first.ram)))).next ≡ headed
    unfolding run
    head-read =
        ap (λ (h : HeadRead). (head_told slots t second h).next) (texts.head-back first.version (length first.ram) allowed)
        ∙ ap (λ (b : Bool). (cond b (gives slots t headed (replies done)) (gives slots t second (replies (refused (22 ∷ []))))).next) (eq-eqb (length first.ram) (length second.ram) (ap length (sym r)))

    headed-core : (l : List Slot) → AcceptedCore second.version (length second.ram) l → ChipOk SlotOk (chips.set_version slots first.version (core_chip second l))
    unfolding chips.set_version
    headed-core l k = record {
      voices = every_map (AcceptedSlot second.version (length second.ram)) (SlotOk first.version second.ram) (slot_set_version first.version) (λ s p. ok-version second.version (length second.ram) s p second.ram first.version) l k.voices;
      eight = length-map l (slot_set_version first.version) ∙ k.eight;
      bytes = subst Bytes (sym r) (core-ok first g 0 (omega arith)).bytes;
    }

    pub headed-good : SlotPairOk headed
    headed-good = record {
      cores = every_map (AcceptedCore second.version (length second.ram)) (λ (l : List Slot). ChipOk SlotOk (core_chip headed l)) (λ l. (chips.set_version slots first.version (core_chip second l)).voices) (λ l k. subst (ChipOk SlotOk) (alike-set-version slots first.version (core_chip second l)) (headed-core l k)) second.cores a.cores;
      two = length-map second.cores (λ l. (chips.set_version slots first.version (core_chip second l)).voices) ∙ a.two;
    }

    abbrev lines : List (List ℕ)
    lines = (seen_over slots t first).lines

    resumed-is : slot_resumed t second (seen_over slots t first) ≡ after (run slots t) headed (map read_voice lines)
    resumed-is = ap (λ (w : SlotPair). after (run slots t) w (map read_voice lines)) head-read

    resumed-good : SlotPairOk (slot_resumed t second (seen_over slots t first))
    resumed-good = subst SlotPairOk (sym resumed-is) (good-after headed (map read_voice lines) headed-good (fit-lines lines))

    plain-headed : after (run plains t) (plain headed) (map read_voice lines) ≡ record { version = first.version; ram = second.ram; cores = split (voices slots first) }
    unfolding chips.set_version
    plain-headed =
        ap (λ (p : Plain). after (run plains t) p (map read_voice lines)) (plain-split headed headed-good)
        ∙ read_all t texts first.version second.ram (voices slots first) (voices slots headed) (sixteen headed headed-good ∙ sym (sixteen first g)) (omega (arith, sixteen first g)) (fit-first first g)

    pub resumed-plain : plain (slot_resumed t second (seen_over slots t first)) ≡ plain first
    resumed-plain =
        ap plain resumed-is ∙ plain-after headed (map read_voice lines) headed-good (fit-lines lines) ∙ plain-headed
        ∙ (λ i. record { version = first.version; ram = r i; cores = split (voices slots first) }) ∙ sym (plain-split first g)
