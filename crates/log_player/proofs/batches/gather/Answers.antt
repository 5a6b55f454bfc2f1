use mathlib.Core.Path.{refl, ap, ◌∙◌}
use Prim.Native.Nat.{◌+◌}
use native.Mathlib.Omega.{arith}
use lib.ListN.{length-set}
use Rattle.log_lines.specs.Lines.{parsed_line}
use Rattle.log_player.specs.declared.ListedCall.{ListedCall}
use Rattle.log_player.proofs.Stops.{end-found, end-none, line-part}
use Rattle.log_player.proofs.Batching.{gathering-none, gathering-ends, gathering-next, first-taken, first_fits, open-line, bad-line, call-made, call-none, call-few}
use Rattle.log_player.proofs.batches.gather.Goals as goal

pub loop-count-init : goal.loop-count-init
loop-count-init c = (refl, refl, refl, gathering-none _ _ _ _ _ _ _)

pub returns-in_default : goal.returns-in_default
returns-in_default c =
    let a = c.args in
    let l = c.loop-count in
    let w = gathering-ends a.input.now a.from a.most a.budget l.kinds l.addresses l.values l.count l.frames l.place l.invariant.3 _ _ _ c.gathered.ensures
    (λ z. open-line a.input.now l.place (end-none a.input.now l.place c.line_end.ensures c.in_default.is)) in
    record { bound = w.0; frames = w.1.0; gathers = w.1.1.0; stops = w.1.1.1 }

pub slice_bounds-parse-count : goal.slice_bounds-parse-count
slice_bounds-parse-count c = omega (arith, (end-found c.args.input.now c.loop-count.place _ c.line_end.ensures c.in-Some.is).0)

pub slice_bounds-parse-start : goal.slice_bounds-parse-start
slice_bounds-parse-start c = omega (arith, (end-found c.args.input.now c.loop-count.place _ c.line_end.ensures c.in-Some.is).0)

pub slice_bounds-parse-end : goal.slice_bounds-parse-end
slice_bounds-parse-end c = omega (arith, (end-found c.args.input.now c.loop-count.place _ c.line_end.ensures c.in-Some.is).1)

pub overflow_add-place : goal.overflow_add-place
overflow_add-place c = omega (arith, (end-found c.args.input.now c.loop-count.place _ c.line_end.ensures c.in-Some.is).1)

pub returns-in_default-listed_call : goal.returns-in_default-listed_call
returns-in_default-listed_call c =
    let a = c.args in
    let l = c.loop-count in
    let stop = end-found a.input.now l.place _ c.line_end.ensures c.in-Some.is in
    let e = c.parse.ensures ∙ ap parsed_line (line-part a.input.now l.place _ stop.0) in
    let w = gathering-ends a.input.now a.from a.most a.budget l.kinds l.addresses l.values l.count l.frames l.place l.invariant.3 _ _ _ c.gathered-in_default-listed_call.ensures
    (λ z. bad-line a.input.now l.place (call-none _ _ _ _ e c.listed_call.ensures c.in_default-listed_call.is)) in
    record { bound = w.0; frames = w.1.0; gathers = w.1.1.0; stops = w.1.1.1 }

pub returns-then-more-gt-FRAMES : goal.returns-then-more-gt-FRAMES
returns-then-more-gt-FRAMES c =
    let a = c.args in
    let l = c.loop-count in
    let stop = end-found a.input.now l.place _ c.line_end.ensures c.in-Some.is in
    let e = c.parse.ensures ∙ ap parsed_line (line-part a.input.now l.place _ stop.0) in
    let few = call-few _ _ (call-made _ _ _ _ e c.listed_call.ensures c.in-Ok.is) c.clocked_by.ensures.result in
    let w = gathering-ends a.input.now a.from a.most a.budget l.kinds l.addresses l.values l.count l.frames l.place l.invariant.3 _ _ _ c.gathered-then-more-gt-FRAMES.ensures
    (λ z. absurd (first-taken a.input.now a.from a.most a.budget l.kinds l.addresses l.values l.count l.frames l.place l.invariant.3 _ few c.if-more-gt-FRAMES.true z)) in
    record { bound = w.0; frames = w.1.0; gathers = w.1.1.0; stops = w.1.1.1 }

pub returns-then-budget-count : goal.returns-then-budget-count
returns-then-budget-count c =
    let a = c.args in
    let l = c.loop-count in
    let w = gathering-ends a.input.now a.from a.most a.budget l.kinds l.addresses l.values l.count l.frames l.place l.invariant.3 _ _ _ c.gathered-then-budget-count.ensures
    (λ z. absurd (first_fits a.input.now a.from a.most a.budget l.kinds l.addresses l.values l.count l.frames l.place l.invariant.3 c.if-budget-count.true z)) in
    record { bound = w.0; frames = w.1.0; gathers = w.1.1.0; stops = w.1.1.1 }

pub loop-count-preserved : goal.loop-count-preserved
loop-count-preserved c =
    let a = c.args in
    let l = c.loop-count in
    let stop = end-found a.input.now l.place _ c.line_end.ensures c.in-Some.is in
    let e = c.parse.ensures ∙ ap parsed_line (line-part a.input.now l.place _ stop.0) in
    let made = call-made _ _ _ _ e c.listed_call.ensures c.in-Ok.is in (
      simp length-set l.invariant.0,
      simp length-set l.invariant.1,
      simp length-set l.invariant.2,
      gathering-next a.input.now a.from a.most a.budget l.kinds l.addresses l.values l.count l.frames l.place l.invariant.3 _ _ _ _ _ _
          c.loop-count-test.true (omega (arith, l.invariant.0, c.requires.fact_2.0, c.loop-count-test.true)) (omega (arith, l.invariant.1, c.requires.fact_2.1, c.loop-count-test.true)) (omega (arith, l.invariant.2, c.requires.fact_2.2, c.loop-count-test.true))
          stop.0 stop.1 made.is (ap (λ (x : ListedCall). x.kind) made.call, ap (λ (x : ListedCall). x.address) made.call, ap (λ (x : ListedCall). x.value) made.call)
          (ap (λ (n : _). l.frames + n) c.clocked_by.ensures.result) c.if-more-gt-FRAMES.false c.if-budget-count.false,
    )

pub returns : goal.returns
returns c =
    let a = c.args in
    let l = c.loop-count in
    let h = c.requires.fact_1.0 in
    let w = gathering-ends a.input.now a.from a.most a.budget l.kinds l.addresses l.values l.count l.frames l.place l.invariant.3 _ _ _ (c.gathered-2.ensures.0 ∙ omega (arith, c.loop-count-test.false, l.invariant.3.some), c.gathered-2.ensures.1, c.gathered-2.ensures.2)
    (λ z. absurd (omega (arith, z, h, c.loop-count-test.false))) in
    record { bound = w.0; frames = w.1.0; gathers = w.1.1.0; stops = w.1.1.1 }
