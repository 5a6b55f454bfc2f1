use Rattle.log_sound.proofs.Taking.{call-is, not-whole, is-bad, is_whole, not_taken, no_room, has-room, none-taken, all-taken, taken-on, leaves}
use Rattle.log_sound.specs.Gathering.{frames_made, gathering, gathered_as}
use Rattle.log_player.proofs.Stops.{end-found, end-none, next-line, next-bad, line-part}
use Rattle.log_player.proofs.Batching.{call-made, call-bad}
use Rattle.log_lines.specs.Lines.{parsed_line}
use lib.ListN.{length}
use Prim.Native.Nat.{ℕ, ◌-◌, ◌<◌}
use native.Mathlib.Omega.{arith}
use mathlib.Core.Path.{◌≡◌, ap, ◌∙◌}
use Rattle.log_sound.proofs.gathering.gather.Goals as goal

pub returns-in_default : goal.returns-in_default
returns-in_default c =
    let left = leaves c.args.room _ (gathering c.loop-count.count c.loop-count.frames c.loop-count.place c.loop-count.kinds c.loop-count.addresses c.loop-count.values) _ (none-taken c.args.input.now c.args.room (256 - c.loop-count.count) _ _ (not_taken c.args.input.now c.args.room (gathering c.loop-count.count c.loop-count.frames c.loop-count.place c.loop-count.kinds c.loop-count.addresses c.loop-count.values) (not-whole c.args.input.now c.loop-count.place (end-none c.args.input.now c.loop-count.place c.line_end.ensures c.in_default.is))) c.loop-count.invariant.2) c.of.ensures c.loop-count.invariant.0 c.loop-count.invariant.1 in
    record { result = left.0; kinds = left.1.0; addresses = left.1.1.0; values = left.1.1.1.0; bound = left.1.1.1.1 }

pub slice_bounds-parse-count : goal.slice_bounds-parse-count
slice_bounds-parse-count c = omega (arith, (end-found c.args.input.now c.loop-count.place _ c.line_end.ensures c.in-Some.is).0)

pub slice_bounds-parse-start : goal.slice_bounds-parse-start
slice_bounds-parse-start c = omega (arith, (end-found c.args.input.now c.loop-count.place _ c.line_end.ensures c.in-Some.is).0)

pub slice_bounds-parse-end : goal.slice_bounds-parse-end
slice_bounds-parse-end c = omega (arith, (end-found c.args.input.now c.loop-count.place _ c.line_end.ensures c.in-Some.is).1)

pub overflow_add-place : goal.overflow_add-place
overflow_add-place c = omega (arith, (end-found c.args.input.now c.loop-count.place _ c.line_end.ensures c.in-Some.is).1)

pub returns-in_default-listed_call : goal.returns-in_default-listed_call
returns-in_default-listed_call c =
    let stop = end-found c.args.input.now c.loop-count.place _ c.line_end.ensures c.in-Some.is in
    let left = leaves c.args.room _ (gathering c.loop-count.count c.loop-count.frames c.loop-count.place c.loop-count.kinds c.loop-count.addresses c.loop-count.values) _ (none-taken c.args.input.now c.args.room (256 - c.loop-count.count) _ _ (not_taken c.args.input.now c.args.room (gathering c.loop-count.count c.loop-count.frames c.loop-count.place c.loop-count.kinds c.loop-count.addresses c.loop-count.values) (is-bad _ _ (next-bad c.args.input.now c.loop-count.place _ stop.0 _ stop.1 (call-bad _ _ _ _ (c.parse.ensures ∙ ap parsed_line (line-part c.args.input.now c.loop-count.place _ stop.0)) c.listed_call.ensures c.in_default-listed_call.is)))) c.loop-count.invariant.2) c.of-in_default-listed_call.ensures c.loop-count.invariant.0 c.loop-count.invariant.1 in
    record { result = left.0; kinds = left.1.0; addresses = left.1.1.0; values = left.1.1.1.0; bound = left.1.1.1.1 }

pub returns-then-room-frames : goal.returns-then-room-frames
unfolding frames_made
returns-then-room-frames c =
    let stop = end-found c.args.input.now c.loop-count.place _ c.line_end.ensures c.in-Some.is in
    let w = is_whole _ _ (next-line c.args.input.now c.loop-count.place _ stop.0 _ stop.1 (call-made _ _ _ _ (c.parse.ensures ∙ ap parsed_line (line-part c.args.input.now c.loop-count.place _ stop.0)) c.listed_call.ensures c.in-Ok.is).is) in
    let left = leaves c.args.room _ (gathering c.loop-count.count c.loop-count.frames c.loop-count.place c.loop-count.kinds c.loop-count.addresses c.loop-count.values) _ (none-taken c.args.input.now c.args.room (256 - c.loop-count.count) _ _ (no_room c.args.input.now c.args.room (gathering c.loop-count.count c.loop-count.frames c.loop-count.place c.loop-count.kinds c.loop-count.addresses c.loop-count.values) _ _ (call-is _ _ _ _ (c.parse.ensures ∙ ap parsed_line (line-part c.args.input.now c.loop-count.place _ stop.0)) c.listed_call.ensures c.in-Ok.is) c.clocked_by-more.ensures.result w (omega arith)) c.loop-count.invariant.2) c.of-then-room-frames.ensures c.loop-count.invariant.0 c.loop-count.invariant.1 in
    record { result = left.0; kinds = left.1.0; addresses = left.1.1.0; values = left.1.1.1.0; bound = left.1.1.1.1 }

pub loop-count-preserved : goal.loop-count-preserved
unfolding frames_made
loop-count-preserved c =
    let stop = end-found c.args.input.now c.loop-count.place _ c.line_end.ensures c.in-Some.is in
    let w = is_whole _ _ (next-line c.args.input.now c.loop-count.place _ stop.0 _ stop.1 (call-made _ _ _ _ (c.parse.ensures ∙ ap parsed_line (line-part c.args.input.now c.loop-count.place _ stop.0)) c.listed_call.ensures c.in-Ok.is).is) in
    let call = call-is _ _ _ _ (c.parse.ensures ∙ ap parsed_line (line-part c.args.input.now c.loop-count.place _ stop.0)) c.listed_call.ensures c.in-Ok.is in
    (omega arith, omega arith, taken-on c.args.input.now c.args.room _ _ (gathering c.loop-count.count c.loop-count.frames c.loop-count.place c.loop-count.kinds c.loop-count.addresses c.loop-count.values) _ _ _ _ stop.0 call c.clocked_by-more.ensures.result (omega arith) (has-room c.args.input.now c.args.room (gathering c.loop-count.count c.loop-count.frames c.loop-count.place c.loop-count.kinds c.loop-count.addresses c.loop-count.values) _ _ call c.clocked_by-more.ensures.result w (omega arith)) c.loop-count.invariant.2)

pub returns : goal.returns
returns c =
    let left = leaves c.args.room _ (gathering c.loop-count.count c.loop-count.frames c.loop-count.place c.loop-count.kinds c.loop-count.addresses c.loop-count.values) _ (all-taken c.args.input.now c.args.room (256 - c.loop-count.count) _ _ (omega arith) c.loop-count.invariant.2) (c.of-2.ensures ∙ ap (λ (n : ℕ). gathered_as n c.loop-count.frames c.loop-count.place) (let e : 256 ≡ c.loop-count.count = omega arith in e)) c.loop-count.invariant.0 c.loop-count.invariant.1 in
    record { result = left.0; kinds = left.1.0; addresses = left.1.1.0; values = left.1.1.1.0; bound = left.1.1.1.1 }
