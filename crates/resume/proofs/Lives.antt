-- A chip that has lived through calls and resumes, and the plain chip that ran its calls. Assumes nothing.
use Rattle.std.specs.Prelude.{Ok}
use mathlib.Core.Path.{◌≡◌, refl, sym, ap, ap₂, ◌∙◌}
use mathlib.Core.List.{List, [], ◌∷◌, map}
use Prim.Native.Nat.{ℕ}
use native.Mathlib.Omega.{arith}
use lib.ListN.{length, replicate}
use Rattle.cores.specs.Sizes.{chip_voices}
use Rattle.session_lines.specs.Head.{head_text}
use Rattle.session.specs.declared.LineCalled.{LineCalled}
use Rattle.plain_chip.specs.Lists.{Every}
use Rattle.slots.specs.Models.{slots, plain}
use Rattle.plain_chip.specs.Models.{plains}
use Rattle.pair_chip.specs.Pairs.{Plain}
use Rattle.slots.proofs.Slots.{slots-plain}
use Rattle.call_lists.specs.Runs.{Outcome, after}
use Rattle.call_lists.specs.Calls.{CallAnswer, Call, read_head, read_voice, replies, done, run}
use Rattle.call_lists.specs.Seen as calls
use Rattle.call_lists.specs.Seen.{Seen, FitCall}
use Rattle.call_lists.proofs.Steps.{step}
use Rattle.call_lists.proofs.Loads.{read_done}
use Rattle.call_lists.proofs.Resumes.{fit-lines, fit-first, sixteen, seen_plain, resumed-plain}
use Rattle.session_texts.specs.Session.{session}
use Rattle.session_texts.proofs.Read.{session-is-ok}
use Rattle.chip_calls.specs.Ties.{Machine, read_by}
use Rattle.chip_calls.specs.Code.{code}
use Rattle.chip_calls.proofs.Every.{tied}
use Rattle.resume.specs.Stops.{seen, reading, resumed, answers_of, Second, of_chip, of_plain, slot_pair_in, Deed, call, over, Life, of_life, calls_of}
use Rattle.resume.proofs.Steps.{HeldMachine, seen_same}
use Rattle.resume.proofs.Second.{accepted, head-called, headed, headed-held, resumed-held, resumed-world}

-- the plain chip that it is
pub record Lived (m : Machine) (p : Plain) : Type 0 where
  pub held : HeldMachine m
  pub same : plain (slot_pair_in m) ≡ p

-- ---- one call
pub lived-call : (m : Machine) (p : Plain) (c : Call) → FitCall c → Lived m p → Lived (code m c).next (run plains session p c).next
lived-call m p c f l = record {
  held = (tied m l.held c f).held;
  same = ap plain (tied m l.held c f).next ∙ (step slots-plain session session-is-ok (slot_pair_in m) l.held.good c f).next ∙ ap (λ (q : Plain). (run plains session q c).next) l.same;
}

pub lived-answer : (m : Machine) (p : Plain) (c : Call) → FitCall c → Lived m p → (code m c).answer ≡ (run plains session p c).answer
lived-answer m p c f l =
    (tied m l.held c f).answer ∙ (step slots-plain session session-is-ok (slot_pair_in m) l.held.good c f).answer ∙ ap (λ (q : Plain). (run plains session q c).answer) l.same

pub lived-seen : (m : Machine) (p : Plain) → Lived m p → seen m ≡ calls.seen_over plains session p
lived-seen m p l = seen_same m l.held ∙ seen_plain session session-is-ok (slot_pair_in m) ∙ ap (calls.seen_over plains session) l.same

-- ---- a list of calls
pub lived-after : (m : Machine) (p : Plain) (cs : List Call) → Every FitCall cs → Lived m p → Lived (after code m cs) (after (run plains session) p cs)
lived-after m p [] f l = l
lived-after m p (c ∷ cs) f l = lived-after (code m c).next (run plains session p c).next cs f.1 (lived-call m p c f.0 l)

pub lived-trace : (m : Machine) (p : Plain) (cs : List Call) → Every FitCall cs → Lived m p → of_chip m cs ≡ of_plain p cs
lived-trace m p [] f l = refl
lived-trace m p (c ∷ cs) f l =
    let n = lived-call m p c f.0 l in
    λ i. record { next = lived-seen (code m c).next (run plains session p c).next n i; answer = lived-answer m p c f.0 l i } ∷ lived-trace (code m c).next (run plains session p c).next cs f.1 n i

-- ---- a second chip that reads the session text
module _ (m n : Machine) (p : Plain) (s : Second m n) (l : Lived m p) where
  pub lived-resume : Lived (resumed n (seen m)) p
  lived-resume = record {
    held = resumed-held m n l.held s;
    same = ap plain (resumed-world m n l.held s) ∙ resumed-plain session session-is-ok (slot_pair_in m) (slot_pair_in n) l.held.good (accepted m n l.held s) s.copy l.held.allowed ∙ l.same;
  }

  pub same-text : seen (resumed n (seen m)) ≡ seen m
  same-text = lived-seen (resumed n (seen m)) p lived-resume ∙ sym (lived-seen m p l)

  -- its lines are all taken
  lines-done : (x : Machine) → HeldMachine x → x.chip.version ≡ m.chip.version → answers_of (of_chip x (map read_voice (seen m).lines)) ≡ replicate chip_voices (replies done)
  lines-done x h v =
      let w = slot_pair_in m in
      let n = sixteen session session-is-ok w l.held.good in
      ap answers_of (lived-trace x (plain (slot_pair_in x)) (map read_voice (seen m).lines) (fit-lines (seen m).lines) (record { held = h; same = refl }))
      ∙ ap (λ (z : Seen). answers_of (of_plain (plain (slot_pair_in x)) (map read_voice z.lines))) (seen_same m l.held)
      ∙ read_done session session-is-ok m.chip.version m.ram (calls.seen_over plains session) 0 (calls.voices slots w) (plain (slot_pair_in x)) v (omega (arith, n)) (fit-first session session-is-ok w l.held.good)
      ∙ ap (λ (k : ℕ). replicate k (replies done)) n

  pub all_done : answers_of (of_chip n (reading (seen m))) ≡ replicate 17 (replies done)
  unfolding code
  all_done =
      let e : code n (read_head (head_text m.chip.version (length m.ram))) ≡ read_by (record { chip = (headed m n l.held s).chip; answer = Ok tt }) n.ram n.queues = ap (λ (c : LineCalled). read_by c n.ram n.queues) (head-called m n l.held s) in
      ap₂ (λ (a : CallAnswer) (x : Machine). a ∷ answers_of (of_chip x (map read_voice (seen m).lines))) (ap (λ (r : Outcome Machine CallAnswer). r.answer) e) (ap (λ (r : Outcome Machine CallAnswer). r.next) e)
      ∙ ap (λ (l : List CallAnswer). replies done ∷ l) (lines-done (headed m n l.held s) (headed-held m n l.held s) refl)

-- ---- calls and resumes, in any order
pub lived-life : (m : Machine) (p : Plain) (ds : List Deed) → Life m ds → Lived m p → of_life m ds ≡ of_plain p (calls_of ds)
lived-life m p [] f l = refl
lived-life m p (call c ∷ ds) f l =
    let n = lived-call m p c f.0 l in
    λ i. record { next = lived-seen (code m c).next (run plains session p c).next n i; answer = lived-answer m p c f.0 l i } ∷ lived-life (code m c).next (run plains session p c).next ds f.1 n i
lived-life m p (over n ∷ ds) f l = lived-life (resumed n (seen m)) p ds f.1 (lived-resume m n p f.0 l)
