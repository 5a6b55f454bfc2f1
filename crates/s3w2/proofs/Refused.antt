-- Which refusal is first, and what a call that is turned away leaves. Assumes nothing.
use mathlib.Core.Path.{◌≡◌, refl, sym, ap, ◌∙◌}
use mathlib.Core.Bool.{Bool, true, false, cond}
use Rattle.num.proofs.Choice.{never}
use Rattle.std.specs.Prelude.{Ok, Err, is_ok}
use Rattle.std.specs.Result.{IsErrAnd}
use Rattle.std.proofs.lemmas.Result.{err_from_is_err_and}
use Rattle.s3w2.specs.declared.Refusal.{Refusal}
use Rattle.s3w2.specs.declared.Refusal.TheVariants.{RamLength, StemBuffer}
use Rattle.s3w2.specs.declared.Called.{Called}
use Rattle.s3w2.specs.declared.Chip.{Chip}
use Rattle.s3w2.specs.Answers.{Answer, Checked, unless, done_unless, answered, called, told}
use Rattle.s3w2.specs.Refusals.{refusal}

-- ---- the first that is not as it should be
module _ (ram queues state stems : Bool) where
  pub no-ram : ram ≡ false → Err RamLength ≡ refusal ram queues state stems
  unfolding refusal
  no-ram e = rw e

  pub nothing-amiss : ram ≡ true → queues ≡ true → state ≡ true → stems ≡ true → Ok tt ≡ refusal ram queues state stems
  unfolding refusal
  nothing-amiss a b c e = rw (a, b, c, e)

-- ---- a call that goes on, and one that is turned away; `r` is the refusal as the code found it
module _ (r wanted : Checked) (e : r ≡ wanted) where
  module _ {A : Type 0} (kept done : A) where
    pub goes-on : is_ok r ≡ true → done ≡ unless wanted kept done
    goes-on h = sym (ap (λ (b : Bool). cond b done kept) (ap is_ok (sym e) ∙ h))

    pub stays : is_ok r ≡ false → kept ≡ unless wanted kept done
    stays h = sym (ap (λ (b : Bool). cond b done kept) (ap is_ok (sym e) ∙ h))

  pub goes-called : (chip : Chip) (done u : Called) → is_ok r ≡ true → u ≡ done → u ≡ called wanted chip done
  goes-called chip done u h q = q ∙ goes-on (answered chip (done_unless wanted)) done h

  pub goes-told : (done u : Answer) → is_ok r ≡ true → u ≡ done → u ≡ told wanted done
  goes-told done u h q = q ∙ goes-on (done_unless wanted) done h

  -- where `why` is what is amiss
  module _ (why : Refusal) (h : r ≡ Err why) where
    told-why : Err why ≡ done_unless wanted
    told-why = sym (ap done_unless h) ∙ ap done_unless e

    pub away : (chip : Chip) (done : Called) → answered chip (Err why) ≡ called wanted chip done
    away chip done = ap (answered chip) told-why ∙ stays (answered chip (done_unless wanted)) done (ap is_ok h)

    -- as `?` hands it on
    pub tells-away : (given done : Answer) → IsErrAnd given (λ x. x ≡ why) → given ≡ told wanted done
    tells-away given done k =
        let p = err_from_is_err_and given k in
        p.1 ∙ ap (λ (x : Refusal). Err x) p.2 ∙ told-why ∙ stays (done_unless wanted) done (ap is_ok h)

-- ---- refusals from others
-- with stems, from the refusal without: both tell of the same first fault
stems-said : (ram queues state stems : Bool) → is_ok (refusal ram queues state true) ≡ false → refusal ram queues state true ≡ refusal ram queues state stems
unfolding refusal
stems-said true true true stems h = never h
stems-said true true false stems h = refl
stems-said true false state stems h = refl
stems-said false queues state stems h = refl

stems-looked : (ram queues state stems : Bool) → is_ok (refusal ram queues state true) ≡ true → refusal ram queues state stems ≡ cond stems (Ok tt) (Err StemBuffer)
unfolding refusal
stems-looked true true true stems h = refl
stems-looked true true false stems h = never (sym h)
stems-looked true false state stems h = never (sym h)
stems-looked false queues state stems h = never (sym h)

module _ (ram queues state stems : Bool) (r : Checked) (e : r ≡ refusal ram queues state true) where
  pub clocked : is_ok r ≡ true → stems ≡ true → Ok tt ≡ refusal ram queues state stems
  clocked h k = sym (stems-looked ram queues state stems (ap is_ok (sym e) ∙ h) ∙ ap (λ (b : Bool). cond b (Ok tt) (Err StemBuffer)) k)

  pub clocked-without : is_ok r ≡ true → stems ≡ false → Err StemBuffer ≡ refusal ram queues state stems
  clocked-without h k = sym (stems-looked ram queues state stems (ap is_ok (sym e) ∙ h) ∙ ap (λ (b : Bool). cond b (Ok tt) (Err StemBuffer)) k)

  pub not-clocked : is_ok r ≡ false → r ≡ refusal ram queues state stems
  not-clocked h = e ∙ stems-said ram queues state stems (ap is_ok (sym e) ∙ h)

  -- as `?` hands it on
  pub not-clocked-so : (why : Refusal) (given : Checked) → r ≡ Err why → IsErrAnd given (λ x. x ≡ why) → given ≡ refusal ram queues state stems
  not-clocked-so why given h k =
      let p = err_from_is_err_and given k in
      p.1 ∙ ap (λ (x : Refusal). Err x) p.2 ∙ sym h ∙ not-clocked (ap is_ok h)
