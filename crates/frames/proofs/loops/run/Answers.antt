use Rattle.std.proofs.Common.{◌/◌, [], ◌∷◌, length, sym, refl, ap, ◌∙◌, subst, arith}
use lib.Seq.{sets}
use Rattle.version.specs.declared.SguVersion.{SguVersion}
use Rattle.voices.specs.Accepted.{AcceptedCore}
use Rattle.voices.proofs.Accepting.{core-accepted}
use Rattle.frames.specs.Turning.{Turns}
use Rattle.frames.specs.Listing.{listed}
use Rattle.frames.specs.declared.Going.{Going}
use Rattle.frames.proofs.Asks.{may, ran, refused}
use Rattle.frames.proofs.Counts.{frames-none}
use Rattle.frames.proofs.loops.run.Goals as goal

pub play_calls-p-requires : goal.play_calls-p-requires
play_calls-p-requires c =
    let a = c.args in
    let m = may a.version a.ram.now a.queues.now a.ticks a.core (sym c.may_run.ensures ∙ c.if-may_run.true) in
    let z = frames-none (0 ∷ []) (0 ∷ []) 0 in
    record { fact_1 = (m.low, m.high); fact_2 = m.entries; fact_3 = m.accepted; fact_4 = (omega arith, omega arith, omega arith, omega (arith, z)); fact_5 = λ j g h. absurd (omega arith) }

pub returns-then-may_run : goal.returns-then-may_run
unfolding listed
returns-then-may_run c =
    let a = c.args in
    let t = c.play_calls-p in
    let k = t.ensures in
    let r = k.result in
    let e = ran a.version a.ram.now a.queues.now a.ticks a.core a.first (length a.stems.now / 2) (sym c.may_run.ensures ∙ c.if-may_run.true) in
    record {
      result = ap (λ (g : Going). g.core) r ∙ ap (λ (t : Turns). t.core) e;
      stems = k.left.stems_is ∙ ap (λ (t : Turns). sets a.stems.now 0 t.stems) e;
      ram_value = λ h. core-accepted t.result.core a.version (length a.ram.now) (subst (λ (v : SguVersion). AcceptedCore t.result.core v (length a.ram.now)) (ap (λ (g : Going). g.version) r) k.accepted_core);
      queues = k.left.queues_is;
    }

pub returns : goal.returns
returns c =
    let a = c.args in
    let e = refused a.version a.ram.now a.queues.now a.ticks a.core a.first (length a.stems.now / 2) (sym c.may_run.ensures ∙ c.if-may_run.false) in
    record { result = ap (λ (t : Turns). t.core) e; stems = ap (λ (t : Turns). sets a.stems.now 0 t.stems) e; ram_value = λ h. h; queues = refl }
