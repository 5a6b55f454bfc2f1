-- A list of calls of the code is the list's run. Assumes nothing.
use mathlib.Core.Path.{◌≡◌, refl, ap, ap₂, ◌∙◌}
use mathlib.Core.List.{List, [], ◌∷◌, map}
use Prim.Native.Nat.{ℕ, zero, suc, ◌+◌, ◌/◌, ◌%◌, ◌<◌}
use native.Mathlib.Omega.{arith}
use lib.ListN.{get_or}
use Rattle.sizes.specs.Sizes.{num_channels}
use Rattle.session.specs.Voices.{line_of_voice}
use Rattle.plain_chip.specs.Lists.{Every}
use Rattle.slots.specs.Slots.{Slot, empty_slot, plain_of}
use Rattle.slots.specs.Models.{slots, SlotPair}
use Rattle.pair_chip.specs.Pairs.{core_of}
use Rattle.chip_as_slots.specs.Whole.{row, slots_of}
use Rattle.call_lists.specs.Runs.{after}
use Rattle.call_lists.specs.Calls.{Call, run}
use Rattle.call_lists.specs.Seen as calls
use Rattle.call_lists.specs.Seen.{FitCall, lines_from}
use Rattle.session_texts.specs.Session.{session, plain_text}
use Rattle.chip_calls.specs.Ties.{Machine, GoodMachine}
use Rattle.chip_calls.specs.Code.{code}
use Rattle.chip_calls.proofs.Lines.{line_same}
use Rattle.chip_calls.proofs.Every.{tied}
use Rattle.resume.specs.Stops.{seen, slot_pair_in}

abbrev pub HeldMachine : Machine → Type 0
HeldMachine m = GoodMachine m.chip m.ram m.queues

pub held_after : (m : Machine) (cs : List Call) → HeldMachine m → Every FitCall cs → HeldMachine (after code m cs)
held_after m [] h f = h
held_after m (c ∷ cs) h f = held_after (code m c).next cs (tied m h c f.0).held f.1

pub world-after : (m : Machine) (cs : List Call) → HeldMachine m → Every FitCall cs → slot_pair_in (after code m cs) ≡ after (run slots session) (slot_pair_in m) cs
world-after m [] h f = refl
world-after m (c ∷ cs) h f =
    let t = tied m h c f.0 in
    world-after (code m c).next cs t.held f.1 ∙ ap (λ (w : SlotPair). after (run slots session) w cs) t.next

-- the text of the lines from voice j on
lines-from : (n j : ℕ) (f : ℕ → Slot) (g : ℕ → List ℕ) → ((i k : ℕ) → i < n → k ≡ j + i → g i ≡ plain_text k (plain_of (f i))) → row n g ≡ lines_from session j (map plain_of (row n f))
lines-from zero j f g h = refl
lines-from (suc n) j f g h =
    ap₂ (λ (x : List ℕ) (l : List (List ℕ)). x ∷ l) (h 0 j (omega arith) (omega arith))
    (lines-from n (suc j) (λ i. f (suc i)) (λ i. g (suc i)) (λ i k l e. h (suc i) k (omega arith) (omega arith)))

-- the session text is that of its voices
pub seen_same : (m : Machine) → HeldMachine m → seen m ≡ calls.seen_over slots session (slot_pair_in m)
unfolding slots_of
seen_same m h =
    let w = slot_pair_in m in
    let voice : ℕ → Slot = λ v. get_or (core_of w (v / num_channels)) (v % num_channels) empty_slot in
    let own : (i k : ℕ) → i < 16 → k ≡ 0 + i → line_of_voice m.chip m.queues i ≡ plain_text k (plain_of (voice i)) = λ i k l e. line_same m.chip m.ram m.queues h i ∙ ap (λ (j : ℕ). plain_text j (plain_of (voice i))) (omega (arith, e)) in
    let e = lines-from 16 0 voice (line_of_voice m.chip m.queues) own in
    λ i. record { head = (seen m).head; lines = e i; ram = m.ram }
