use Rattle.std.specs.Prelude.{Err, is_ok}
use Rattle.s3w2.specs.declared.Refusal.{Refusal}
use Rattle.session.specs.declared.LineRefusal.TheVariants.{OfChip}
use mathlib.Core.Path.{sym, ap, refl, ◌∙◌}
use Rattle.session.specs.Answers.{wrote}
use native.Mathlib.Omega.{arith}
use Rattle.session_lines.proofs.Whole.{write-none}
use Rattle.session.specs.Voices.{line_of_voice, write_voice_answer, write_voice_text}
use Rattle.session.proofs.Lines.{away-queues, handed, no-room, on-queues, own-line, line-answer, line-text}
use Rattle.session.proofs.writing.write_voice.Goals as goal

pub returns-in_err-refusal_with_queues-clause-answer : goal.returns-in_err-refusal_with_queues-clause-answer
unfolding write_voice_answer
returns-in_err-refusal_with_queues-clause-answer c =
    let r = c.refusal_with_queues in
    handed c.from_residual.result _ c.from_residual.ensures.1 ∙ away-queues c.args.chip _ (λ (x : Refusal). Err (OfChip x)) r.result _ c.in_err-refusal_with_queues.was c.args.queues.now r.ensures

pub returns-in_err-refusal_with_queues-clause-out : goal.returns-in_err-refusal_with_queues-clause-out
unfolding write_voice_text
returns-in_err-refusal_with_queues-clause-out c =
    let r = c.refusal_with_queues in
    away-queues c.args.chip _ (λ (x : Refusal). c.args.out.now) r.result _ c.in_err-refusal_with_queues.was c.args.queues.now r.ensures

pub slice_bounds-write_voice-end : goal.slice_bounds-write_voice-end
slice_bounds-write_voice-end c =
    let a = c.args in
    omega (arith, c.if-voice-ge-CHIP_VOICES.false, (on-queues a.chip a.queues.now c.refusal_with_queues.result c.refusal_with_queues.ensures (ap is_ok c.in_ok-refusal_with_queues.was)).0)

pub returns-then-voice-ge-CHIP_VOICES-clause-answer : goal.returns-then-voice-ge-CHIP_VOICES-clause-answer
unfolding line_of_voice
returns-then-voice-ge-CHIP_VOICES-clause-answer c =
    let a = c.args in
    let on = on-queues a.chip a.queues.now c.refusal_with_queues.result c.refusal_with_queues.ensures (ap is_ok c.in_ok-refusal_with_queues.was) in
    let e = on.1 in
    let n = on.0 in
    let w = write-none a.voice _ _ _ a.out.now c.if-voice-ge-CHIP_VOICES.true in
    (line-answer a.chip a.queues.now a.voice a.out.now _ refl n e _ w.0)

pub returns-then-voice-ge-CHIP_VOICES-clause-out : goal.returns-then-voice-ge-CHIP_VOICES-clause-out
unfolding line_of_voice
returns-then-voice-ge-CHIP_VOICES-clause-out c =
    let a = c.args in
    let on = on-queues a.chip a.queues.now c.refusal_with_queues.result c.refusal_with_queues.ensures (ap is_ok c.in_ok-refusal_with_queues.was) in
    let e = on.1 in
    let n = on.0 in
    let w = write-none a.voice _ _ _ a.out.now c.if-voice-ge-CHIP_VOICES.true in
    (line-text a.chip a.queues.now a.voice a.out.now _ refl n e _ w.1)

pub returns-in_err-written-clause-answer : goal.returns-in_err-written-clause-answer
returns-in_err-written-clause-answer c =
    let w = c.write_voice in
    let p = c.part-wavetable in
    let a = c.args in
    let on = on-queues a.chip a.queues.now c.refusal_with_queues.result c.refusal_with_queues.ensures (ap is_ok c.in_ok-refusal_with_queues.was) in
    let e = on.1 in
    let n = on.0 in
    let t = own-line a.chip a.queues.now a.voice _ p.ensures in
    let k = c.from_residual-in_err-written in
    (handed k.result _ k.ensures.1 ∙ no-room _ _ c.in_err-written.was ∙ line-answer a.chip a.queues.now a.voice a.out.now _ t n e _ w.ensures.result)

pub returns-in_err-written-clause-out : goal.returns-in_err-written-clause-out
returns-in_err-written-clause-out c =
    let w = c.write_voice in
    let p = c.part-wavetable in
    let a = c.args in
    let on = on-queues a.chip a.queues.now c.refusal_with_queues.result c.refusal_with_queues.ensures (ap is_ok c.in_ok-refusal_with_queues.was) in
    let e = on.1 in
    let n = on.0 in
    let t = own-line a.chip a.queues.now a.voice _ p.ensures in
    (line-text a.chip a.queues.now a.voice a.out.now _ t n e _ w.ensures.out)

pub returns-clause-answer : goal.returns-clause-answer
returns-clause-answer c =
    let w = c.write_voice in
    let p = c.part-wavetable in
    let a = c.args in
    let on = on-queues a.chip a.queues.now c.refusal_with_queues.result c.refusal_with_queues.ensures (ap is_ok c.in_ok-refusal_with_queues.was) in
    let e = on.1 in
    let n = on.0 in
    let t = own-line a.chip a.queues.now a.voice _ p.ensures in
    (sym (ap wrote c.in_ok-written.was) ∙ line-answer a.chip a.queues.now a.voice a.out.now _ t n e _ w.ensures.result)

pub returns-clause-out : goal.returns-clause-out
returns-clause-out c =
    let w = c.write_voice in
    let p = c.part-wavetable in
    let a = c.args in
    let on = on-queues a.chip a.queues.now c.refusal_with_queues.result c.refusal_with_queues.ensures (ap is_ok c.in_ok-refusal_with_queues.was) in
    let e = on.1 in
    let n = on.0 in
    let t = own-line a.chip a.queues.now a.voice _ p.ensures in
    (line-text a.chip a.queues.now a.voice a.out.now _ t n e _ w.ensures.out)
