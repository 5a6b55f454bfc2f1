use Rattle.std.specs.Prelude.{Err}
use Rattle.log_player.specs.declared.Stop.TheVariants.{Bad}
use mathlib.Core.Path.{◌≡◌, sym, ap, ◌∙◌}
use native.Mathlib.Omega.{arith}
use Rattle.std.proofs.Common.{rules}
use Rattle.log_lines.specs.Lines.{parsed_line}
use Rattle.log_player.proofs.Stops.{end-found, end-none, next_past, next-rest, next-long, next-line, next-bad, line-part}
use Rattle.log_player.proofs.steps.look.Goals as goal

pub returns-then-input-from : goal.returns-then-input-from
returns-then-input-from c = sym (next_past c.args.input.now c.args.from c.if-input-from.true)

pub returns-then-input-from-le16 : goal.returns-then-input-from-le16
returns-then-input-from-le16 c = sym (next-rest c.args.input.now c.args.from (end-none c.args.input.now c.args.from c.line_end.ensures c.in_default.is) c.if-input-from-le16.true)

pub returns-in_default : goal.returns-in_default
returns-in_default c = sym (next-long c.args.input.now c.args.from (end-none c.args.input.now c.args.from c.line_end.ensures c.in_default.is) c.if-input-from-le16.false)

pub slice_bounds-parse-count : goal.slice_bounds-parse-count
slice_bounds-parse-count c = omega (arith, (end-found c.args.input.now c.args.from _ c.line_end.ensures c.in-Some.is).0)

pub slice_bounds-parse-start : goal.slice_bounds-parse-start
slice_bounds-parse-start c = omega (arith, (end-found c.args.input.now c.args.from _ c.line_end.ensures c.in-Some.is).0)

pub slice_bounds-parse-end : goal.slice_bounds-parse-end
slice_bounds-parse-end c = omega (arith, (end-found c.args.input.now c.args.from _ c.line_end.ensures c.in-Some.is).1)

pub returns-in_err-parse : goal.returns-in_err-parse
returns-in_err-parse c =
    let stop = end-found c.args.input.now c.args.from _ c.line_end.ensures c.in-Some.is in
    let e : c.from_residual.result ≡ Err (Bad c.in_err-parse.field-0.0) = search rules in
    e ∙ sym (next-bad c.args.input.now c.args.from _ stop.0 _ stop.1 (sym c.in_err-parse.was ∙ c.parse.ensures ∙ ap parsed_line (line-part c.args.input.now c.args.from _ stop.0)))

pub returns : goal.returns
returns c =
    let stop = end-found c.args.input.now c.args.from _ c.line_end.ensures c.in-Some.is in
    sym (next-line c.args.input.now c.args.from _ stop.0 _ stop.1 (sym c.in_ok-parse.was ∙ c.parse.ensures ∙ ap parsed_line (line-part c.args.input.now c.args.from _ stop.0)))
