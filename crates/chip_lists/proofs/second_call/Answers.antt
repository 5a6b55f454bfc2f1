use mathlib.Core.Path.{sym, ap, ◌∙◌}
use mathlib.Core.Bool.{Bool, ◌&&◌}
use lib.Dec.{ltb}
use lib.ListN.{length, get_or}
use Rattle.frames.specs.Listing.{asked_of, lent_list, played_of}
use Rattle.frames.specs.declared.Played.{Played}
use Rattle.chip_lists.specs.Second.{is_shared}
use Rattle.chip_lists.proofs.SecondCalls.{one-played, one-is, one-there, clock-found, is-lacking, is-there, lacking, shared}
use Rattle.chip_lists.proofs.second_call.Goals as goal

pub returns-then-eq-core_count : goal.returns-then-eq-core_count
returns-then-eq-core_count c =
    let a = c.args in
    let n = c.core_count in
    let l = is-lacking (asked_of (get_or a.kinds.now 0 0)) n.result a.version n.ensures (ap (λ (b : Bool). b && ltb n.result 2) (sym (clock-found _ _ _ c.eq.ensures c.from-call.ensures)) ∙ c.if-eq-core_count.true) in
    lacking a.kinds.now a.addresses.now a.core a.version a.ram.now a.queues.now a.values.now a.others.now c.requires.fact_3 (asked_of (get_or a.kinds.now 0 0)) l.0 l.1 c.requires.fact_4 _ c.clear.ensures

pub returns-in-Some : goal.returns-in-Some
returns-in-Some c =
    let a = c.args in
    let t = asked_of (get_or a.kinds.now 0 0) in
    let s = lent_list a.core a.version a.ram.now a.queues.now a.values.now in
    let r = c.requires in
    let own = sym (c.is_shared.ensures ∙ ap is_shared c.from-call.ensures) ∙ c.if-not-is_shared.false in
    let there = is-there t c.core_count.result a.version c.core_count.ensures (ap (λ (b : Bool). b && ltb c.core_count.result 2) (sym (clock-found _ _ _ c.eq.ensures c.from-call.ensures)) ∙ c.if-eq-core_count.false) in
    let p = c.play.ensures in
    let e = one-played a.kinds.now a.addresses.now (length a.others.now) s r.fact_1.0 r.fact_1.1 r.fact_1.2 r.fact_2 r.fact_3 r.fact_4 in
    let i = one-is a.kinds.now a.addresses.now (length a.others.now) s r.fact_1.0 r.fact_1.1 r.fact_1.2 r.fact_2 r.fact_3 r.fact_4 c.in-Some.played (sym p.result ∙ c.in-Some.is) in
    shared a.kinds.now a.addresses.now a.core a.version a.ram.now a.queues.now a.values.now a.others.now r.fact_3 t own there
    (played_of a.kinds.now a.addresses.now (length a.others.now) s) e _ _ _ _ _ (ap (λ (x : Played). x.core) i) p.left (p.ram_value r.fact_3)

pub returns-in-None : goal.returns-in-None
returns-in-None c =
    let a = c.args in
    let s = lent_list a.core a.version a.ram.now a.queues.now a.values.now in
    let r = c.requires in
    one-there a.kinds.now a.addresses.now (length a.others.now) s r.fact_1.0 r.fact_1.1 r.fact_1.2 r.fact_2 r.fact_3 r.fact_4 (sym c.play.ensures.result ∙ c.in-None.is)
