use Rattle.std.proofs.Common.{◌-◌, length, refl, ap, ◌∙◌, subst, arith}
use lib.Seq.{sets}
use Rattle.voices.proofs.Accepting.{accepted-core, core-accepted}
use Rattle.frames.specs.Listing.{Listed, lent_list, after_list, AcceptedAfter}
use Rattle.frames.specs.declared.Going.{Going}
use Rattle.frames.proofs.Counts.{stored-part}
use Rattle.frames.proofs.Fits.{sized}
use Rattle.frames.proofs.Runs.{RunStored, run-none, stored-by, ran-none, run_room, stored-accepted, run-made, ran-all, all-before}
use Rattle.frames.proofs.lists.play_runs.Goals as goal
use Rattle.frames.proofs.lists.play_runs.Goals.{Joined-i-end, then-i-end, else-i-end}

pub loop-i-init : goal.loop-i-init
loop-i-init c =
    let a = c.args in
    let r = c.requires in
    (ran-none a.kinds.now a.addresses.now a.count (lent_list a.core a.version a.ram.now a.queues.now a.values.now) a.stems.now refl (accepted-core a.core a.version (length a.ram.now) (sized a.core c.well_formed.0.1.1) r.fact_2) r.fact_1, r.fact_3.0, r.fact_3.1, r.fact_3.2, r.fact_4)

-- the RAM and the caches after the calls that write to the RAM
stored : (c : Joined-i-end) → RunStored c.args.kinds.now c.args.addresses.now c.loop-i.values c.loop-i.i c.run_end-end.result c.loop-i.ram c.loop-i.core c.if-i-end.ram c.if-i-end.core
stored c =
    let a = c.args in
    let l = c.loop-i in
    let end = c.run_end-end.result in
    elim c.if-i-end.branch [
      | then-i-end w ↦ stored-by a.kinds.now a.addresses.now l.values l.i end l.ram l.core _ _ _ _ w.ram-is w.core-is (record { bytes = w.store_bytes.ensures ∙ stored-part a.addresses.now l.values l.i l.ram (end - l.i) (omega (arith, c.run_end-end.ensures.bounds.0, c.run_end-end.ensures.bounds.1, l.invariant.2)); caches = w.after_ram_writes-core.ensures })
      | else-i-end w ↦ stored-by a.kinds.now a.addresses.now l.values l.i end l.ram l.core _ _ _ _ w.ram-is w.core-is (run-none a.kinds.now a.addresses.now l.values l.i end l.ram l.core w.if-i-end.false)
    ]

pub play_calls-p-requires : goal.play_calls-p-requires
play_calls-p-requires c =
    let a = c.args in
    let l = c.loop-i in
    let g = l.invariant.0 in
    let r = c.run_end-end in
    let j = c.if-i-end in
    let q = c.run_end-to in
    let s = stored (goal.at.play_calls-p-requires c).Joined-i-end in
    record {
      fact_1 = (omega arith, omega arith);
      fact_2 = g.entries;
      fact_3 = core-accepted j.core l.version _ (stored-accepted a.kinds.now a.addresses.now a.count (lent_list a.core a.version a.ram.now a.queues.now a.values.now) a.stems.now refl l.core l.version l.ram l.queues l.values l.stems l.i l.at g r.result q.result r.ensures.bounds.0 q.ensures.bounds.0 q.ensures.bounds.1 l.invariant.2 r.ensures.run j.ram j.core s.bytes s.caches);
      fact_4 = (omega (arith, q.ensures.bounds.1, l.invariant.1), omega (arith, q.ensures.bounds.1, l.invariant.2), omega (arith, q.ensures.bounds.1, l.invariant.3, g.long), run_room a.kinds.now a.addresses.now a.count (lent_list a.core a.version a.ram.now a.queues.now a.values.now) a.stems.now refl l.core l.version l.ram l.queues l.values l.stems l.i l.at g r.result q.result r.ensures.bounds.0 q.ensures.bounds.0 q.ensures.bounds.1 l.invariant.2 r.ensures.run j.ram j.core s.bytes s.caches l.invariant.4);
      fact_5 = q.ensures.run;
    }

pub loop-i-preserved : goal.loop-i-preserved
loop-i-preserved c =
    let a = c.args in
    let l = c.loop-i in
    let g = l.invariant.0 in
    let r = c.run_end-end in
    let j = c.if-i-end in
    let q = c.run_end-to in
    let s = stored (goal.at.loop-i-preserved c).Joined-i-end in
    let k = c.play_calls-p.ensures in
    let e = k.result in (
      run-made a.kinds.now a.addresses.now a.count (lent_list a.core a.version a.ram.now a.queues.now a.values.now) a.stems.now refl l.core l.version l.ram l.queues l.values l.stems l.i l.at g r.result q.result r.ensures.bounds.0 q.ensures.bounds.0 q.ensures.bounds.1 l.invariant.2 r.ensures.run j.ram j.core s.bytes s.caches q.ensures.run _ _ _ _ _ _ (ap (λ (g : Going). g.core) e) (ap (λ (g : Going). g.version) e) k.left.queues_is k.left.values_is k.left.stems_is (ap (λ (g : Going). g.at) e) k.accepted_core k.each_accepted k.queues_len_unchanged.0 k.queues_len_unchanged.1,
      l.invariant.1,
      l.invariant.2,
      l.invariant.3,
      l.invariant.4,
    )

pub returns : goal.returns
returns c =
    let a = c.args in
    let l = c.loop-i in
    let g = l.invariant.0 in
    let o = ran-all a.kinds.now a.addresses.now a.count (lent_list a.core a.version a.ram.now a.queues.now a.values.now) a.stems.now refl l.core l.version l.ram l.queues l.values l.stems l.i l.at g c.loop-i-test.false in
    record {
      result = ap (λ (s : Listed). after_list s) o;
      left = record {
        ram_is = ap (λ (s : Listed). s.ram) o;
        queues_is = ap (λ (s : Listed). s.queues) o;
        values_is = ap (λ (s : Listed). s.values) o;
        stems_is = g.filled ∙ ap (λ (s : Listed). sets a.stems.now 0 s.stems) o;
      };
      each_accepted = all-before a.kinds.now a.addresses.now a.count (lent_list a.core a.version a.ram.now a.queues.now a.values.now) a.stems.now refl l.core l.version l.ram l.queues l.values l.stems l.i l.at g c.loop-i-test.false;
      ram_value = subst (λ (s : Listed). AcceptedAfter s (length a.ram.now)) o (core-accepted l.core l.version (length a.ram.now) g.accepted);
    }
