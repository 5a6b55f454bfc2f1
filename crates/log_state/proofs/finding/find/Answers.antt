use native.Mathlib.Omega.{arith}
use Rattle.log_player.proofs.Stops.{end-found, end-none}
use Rattle.log_state.proofs.Finds.{sound-within, open-sound, open-line, whole-sound, whole-line}
use Rattle.log_state.proofs.finding.find.Goals as goal

pub overflow_add-result : goal.overflow_add-result
overflow_add-result c = omega (arith, sound-within c.args.input.now c.args.from c.args.k _ c.byte_at.ensures _ c.is_sound-sound.ensures c.if-sound.true)

pub returns-then-sound : goal.returns-then-sound
returns-then-sound c = open-sound c.args.input.now c.args.from c.args.k _ c.byte_at.ensures _ c.is_sound-sound.ensures (end-none c.args.input.now c.args.from c.line_end.ensures c.in_default.is) c.if-sound.true

pub returns-in_default : goal.returns-in_default
returns-in_default c = open-line c.args.input.now c.args.from c.args.k _ c.byte_at.ensures _ c.is_sound-sound.ensures (end-none c.args.input.now c.args.from c.line_end.ensures c.in_default.is) _ c.max.ensures c.if-sound.false

pub overflow_add-result-then-sound-2 : goal.overflow_add-result-then-sound-2
overflow_add-result-then-sound-2 c = omega (arith, (end-found c.args.input.now c.args.from _ c.line_end.ensures c.in-Some.is).1)

pub returns-then-sound-2 : goal.returns-then-sound-2
returns-then-sound-2 c =
    let stop = end-found c.args.input.now c.args.from _ c.line_end.ensures c.in-Some.is in
    whole-sound c.args.input.now c.args.from c.args.k _ c.byte_at.ensures _ c.is_sound-sound.ensures _ stop.0 stop.1 c.if-sound-2.true

pub returns : goal.returns
returns c =
    let stop = end-found c.args.input.now c.args.from _ c.line_end.ensures c.in-Some.is in
    whole-line c.args.input.now c.args.from c.args.k _ c.byte_at.ensures _ c.is_sound-sound.ensures _ stop.0 stop.1 c.if-sound-2.false

pub overflow_add-result-2 : goal.overflow_add-result-2
overflow_add-result-2 c = omega (arith, (end-found c.args.input.now c.args.from _ c.line_end.ensures c.in-Some.is).1)
