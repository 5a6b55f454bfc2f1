use Rattle.std.proofs.Common.{ℕ, ◌*◌, length, sym, ap, ◌∙◌, subst, arith, eqb-true}
use lib.Seq.{sets}
use Rattle.sizes.specs.Sizes.{stems_per_frame}
use Rattle.frames.specs.Listing.{Listed, lent_list, after_list, AcceptedAfter, frames_asked, EachAccepted, call_count}
use Rattle.frames.proofs.Asks.{may, may-play, may-not, opened, answered, unplayed, never-each}
use Rattle.frames.proofs.lists.play.Goals as goal

pub play_runs-requires : goal.play_runs-requires
play_runs-requires c =
    let a = c.args in
    let m = may a.version a.ram.now a.queues.now 4 a.core (sym c.may_run.ensures ∙ c.if-not-may_run.false) in
    let n = c.call_count-count.ensures in
    let k = eqb-true (length a.stems.now) (stems_per_frame * frames_asked a.kinds.now a.addresses.now 0 (call_count a.kinds.now a.addresses.now a.values.now)) (sym c.fills.ensures ∙ c.if-not-fills.false) in
    let e = ap (λ (i : ℕ). stems_per_frame * frames_asked a.kinds.now a.addresses.now 0 i) n in
    record { fact_1 = m.entries; fact_2 = m.accepted; fact_3 = (omega (arith, n), omega (arith, n), omega (arith, n)); fact_4 = omega (arith, k, e) }

pub returns : goal.returns
returns c =
    let a = c.args in
    let k = c.play_runs.ensures in
    let s = lent_list a.core a.version a.ram.now a.queues.now a.values.now in
    let g = sym (may-play a.kinds.now a.addresses.now (length a.stems.now) s (sym c.may_run.ensures ∙ c.if-not-may_run.false)) ∙ (sym c.fills.ensures ∙ c.if-not-fills.false) in
    let n = c.call_count-count.ensures in
    let o = opened a.kinds.now a.addresses.now (length a.stems.now) s g _ n in
    record {
      result = k.result ∙ ap (λ (s : Listed). after_list s) o ∙ answered a.kinds.now a.addresses.now (length a.stems.now) s g;
      left = record {
        ram_is = k.left.ram_is ∙ ap (λ (s : Listed). s.ram) o;
        queues_is = k.left.queues_is ∙ ap (λ (s : Listed). s.queues) o;
        values_is = k.left.values_is ∙ ap (λ (s : Listed). s.values) o;
        stems_is = k.left.stems_is ∙ ap (λ (s : Listed). sets a.stems.now 0 s.stems) o;
      };
      each_accepted = λ z. subst (λ (i : ℕ). EachAccepted a.kinds.now a.addresses.now 0 4 0 i s) n k.each_accepted;
      ram_value = λ z. subst (λ (s : Listed). AcceptedAfter s (length a.ram.now)) o k.ram_value;
    }

pub returns-then-not-fills : goal.returns-then-not-fills
returns-then-not-fills c =
    let a = c.args in
    let s = lent_list a.core a.version a.ram.now a.queues.now a.values.now in
    let g = sym (may-play a.kinds.now a.addresses.now (length a.stems.now) s (sym c.may_run.ensures ∙ c.if-not-may_run.false)) ∙ (sym c.fills.ensures ∙ c.if-not-fills.true) in
    let u = unplayed a.kinds.now a.addresses.now (length a.stems.now) s g in
    record { result = u.none; left = u.left a.stems.now; each_accepted = never-each a.kinds.now a.addresses.now (length a.stems.now) s _ g; ram_value = u.kept (length a.ram.now) }

pub returns-then-not-may_run : goal.returns-then-not-may_run
returns-then-not-may_run c =
    let a = c.args in
    let s = lent_list a.core a.version a.ram.now a.queues.now a.values.now in
    let g = sym (may-not a.kinds.now a.addresses.now (length a.stems.now) s (sym c.may_run.ensures ∙ c.if-not-may_run.true)) in
    let u = unplayed a.kinds.now a.addresses.now (length a.stems.now) s g in
    record { result = u.none; left = u.left a.stems.now; each_accepted = never-each a.kinds.now a.addresses.now (length a.stems.now) s _ g; ram_value = u.kept (length a.ram.now) }
