-- Two chips with the same session fields and the same RAM answer alike, and stay so. Assumes nothing.
use mathlib.Core.Path.{◌≡◌, refl, sym, ◌∙◌}
use Rattle.pair_chip.specs.Pairs.{Plain}
use Rattle.slots.specs.Models.{plain}
use Rattle.call_lists.specs.Calls.{Call}
use Rattle.call_lists.specs.Seen.{FitCall}
use Rattle.chip_calls.specs.Ties.{Machine}
use Rattle.chip_calls.specs.Code.{code}
use Rattle.resume.specs.Stops.{seen, resumed, Second, slot_pair_in}
use Rattle.resume.proofs.Steps.{HeldMachine}
use Rattle.resume.proofs.Lives.{Lived, lived-call, lived-answer, lived-resume}

pub record Alike (one two : Machine) : Type 0 where
  pub first : HeldMachine one
  pub second : HeldMachine two
  pub same : plain (slot_pair_in one) ≡ plain (slot_pair_in two)

module _ (one two : Machine) (a : Alike one two) (c : Call) (f : FitCall c) where
  abbrev p : Plain
  p = plain (slot_pair_in two)

  abbrev both : Lived one p × Lived two p
  both = (record { held = a.first; same = a.same }, record { held = a.second; same = refl })

  pub same_answer : (code one c).answer ≡ (code two c).answer
  same_answer = lived-answer one p c f both.0 ∙ sym (lived-answer two p c f both.1)

  pub still_alike : Alike (code one c).next (code two c).next
  still_alike =
      let x = lived-call one p c f both.0 in
      let y = lived-call two p c f both.1 in
      record { first = x.held; second = y.held; same = x.same ∙ sym y.same }

-- a chip and a second one that has read its session text
pub resumed-alike : (one two : Machine) → HeldMachine one → Second one two → Alike one (resumed two (seen one))
resumed-alike one two h s =
    let r = lived-resume one two (plain (slot_pair_in one)) s (record { held = h; same = refl }) in
    record { first = h; second = r.held; same = sym r.same }
