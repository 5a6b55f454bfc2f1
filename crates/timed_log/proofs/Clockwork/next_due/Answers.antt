use Rattle.std.specs.Prelude.{Ok, Some, Err}
use mathlib.Core.Path.{◌≡◌, sym, ap, ◌∙◌}
use mathlib.Core.List.{List}
use Prim.Native.Nat.{ℕ, ◌+◌, ◌≤◌, ◌<◌}
use native.Mathlib.Omega.{arith}
use lib.ListN.{length, drop}
use borrow.Author.Rules.{rules}
use Rattle.log_player.specs.Steps.{first_line}
use Rattle.log_player.proofs.Stops.{end-found, end-none, line-part}
use Rattle.timed_log.specs.declared.Clockwork.{Clockwork}
use Rattle.timed_log.specs.Lines.{as_due, line_ahead, TimedLine, due_of, judged, placed, next_due}
use Rattle.timed_log.proofs.Judging.{due-past, due-rest, due-long, due-line, due-is, taken_is}
use Rattle.timed_log.proofs.Clockwork.next_due.Goals as goal

-- a line that ends inside the input, judged
module _ (k : Clockwork) (input : List ℕ) (from stop : ℕ) (s : stop ≡ from + length (first_line (drop from input))) (inside : stop < length input) (found line : TimedLine) (d : found ≡ due_of (first_line (drop from input))) (j : line ≡ judged k found) where
  is : line ≡ judged k (due_of (first_line (drop from input)))
  is = j ∙ ap (judged k) d

  whole : placed from (length (first_line (drop from input))) line ≡ next_due k (drop from input) from
  whole = ap (placed _ _) is ∙ due-line k input from stop s inside

  -- what is due begins in it
  within : (stamp begin : ℕ) → line ≡ Ok (as_due stamp begin) → from + begin ≤ length input
  within stamp begin e =
      let text : List ℕ = first_line (drop from input) in
      let t = taken_is k _ _ (due_of text) (sym is ∙ e) in
      omega (arith, (due-is text _ _ t.due).within, inside, s)

pub returns-then-input-from : goal.returns-then-input-from
returns-then-input-from c = due-past c.args.self c.args.input.now c.args.from c.if-input-from.true

pub returns-then-input-from-le-LONGEST : goal.returns-then-input-from-le-LONGEST
returns-then-input-from-le-LONGEST c = due-rest c.args.self c.args.input.now c.args.from (end-none c.args.input.now c.args.from c.line_end.ensures c.in_default.is) c.if-input-from-le-LONGEST.true

pub returns-in_default : goal.returns-in_default
returns-in_default c = due-long c.args.self c.args.input.now c.args.from (end-none c.args.input.now c.args.from c.line_end.ensures c.in_default.is) c.if-input-from-le-LONGEST.false

pub slice_bounds-due-count : goal.slice_bounds-due-count
slice_bounds-due-count c = omega (arith, (end-found c.args.input.now c.args.from _ c.line_end.ensures c.in-Some.is).0)

pub slice_bounds-due-start : goal.slice_bounds-due-start
slice_bounds-due-start c = omega (arith, (end-found c.args.input.now c.args.from _ c.line_end.ensures c.in-Some.is).0)

pub slice_bounds-due-end : goal.slice_bounds-due-end
slice_bounds-due-end c = omega (arith, (end-found c.args.input.now c.args.from _ c.line_end.ensures c.in-Some.is).1)

pub returns-in_err-due : goal.returns-in_err-due
returns-in_err-due c =
    let stop = end-found c.args.input.now c.args.from _ c.line_end.ensures c.in-Some.is in
    let d = c.due.ensures ∙ ap due_of (line-part c.args.input.now c.args.from _ stop.0) in
    let e : c.from_residual.result ≡ Err c.in_err-due.field-0.0 = search rules in
    e
    ∙ sym (ap (placed c.args.from (length (first_line (drop c.args.from c.args.input.now)))) c.in_err-due.was)
    ∙ whole c.args.self c.args.input.now c.args.from _ stop.0 stop.1 _ _ d c.judged.ensures

pub overflow_add-result : goal.overflow_add-result
overflow_add-result c =
    let stop = end-found c.args.input.now c.args.from _ c.line_end.ensures c.in-Some.is in
    let d = c.due.ensures ∙ ap due_of (line-part c.args.input.now c.args.from _ stop.0) in
    let h = within c.args.self c.args.input.now c.args.from _ stop.0 stop.1 _ _ d c.judged.ensures _ _ c.in_ok-due.was in
    omega (arith, h)

pub returns : goal.returns
returns c =
    let stop = end-found c.args.input.now c.args.from _ c.line_end.ensures c.in-Some.is in
    let d = c.due.ensures ∙ ap due_of (line-part c.args.input.now c.args.from _ stop.0) in
    let to : c.in-Some.stop + 1 ≡ c.args.from + length (first_line (drop c.args.from c.args.input.now)) + 1 = omega arith in
    ap (λ (i : ℕ). Ok (Some (line_ahead c.in_ok-due.due.stamp (c.args.from + c.in_ok-due.due.from) i))) to
    ∙ sym (ap (placed _ _) c.in_ok-due.was)
    ∙ whole c.args.self c.args.input.now c.args.from _ stop.0 stop.1 _ _ d c.judged.ensures
