use Rattle.std.specs.Prelude.{Ok, Err, is_ok}
use Rattle.s3w2.specs.declared.Refusal.{Refusal}
use Rattle.session.specs.declared.LineRefusal.{LineRefusal}
use Rattle.session.specs.declared.LineRefusal.TheVariants.{OfChip}
use mathlib.Core.Path.{sym, ap, ◌∙◌}
use Rattle.s3w2.specs.declared.Chip.{Chip}
use Rattle.session_lines.specs.Lines.{read_as}
use Rattle.session.specs.Answers.{line_answered}
use Rattle.session.specs.Voices.{voice_read_called, voice_read_queues}
use Rattle.session.proofs.Told.{read_named}
use Rattle.session.proofs.Lines.{away-queues, on-queues, goes-on, voice-called, voice-queues, refused-called, refused-queues}
use Rattle.session.proofs.reading.read.Goals as goal

pub returns-in-Err-clause-called : goal.returns-in-Err-clause-called
unfolding voice_read_called
returns-in-Err-clause-called c =
    let r = c.refusal_with_queues in
    c.answers.ensures ∙ ap (line_answered c.args.chip) (ap (λ (x : LineRefusal). Err x) c.from.ensures)
    ∙ away-queues c.args.chip _ (λ (x : Refusal). line_answered c.args.chip (Err (OfChip x))) r.result _ c.in-Err.is c.args.queues.now r.ensures

pub returns-in-Err-clause-queues : goal.returns-in-Err-clause-queues
unfolding voice_read_queues
returns-in-Err-clause-queues c =
    let r = c.refusal_with_queues in
    away-queues c.args.chip _ (λ (x : Refusal). c.args.queues.now) r.result _ c.in-Err.is c.args.queues.now r.ensures

pub load-requires : goal.load-requires
load-requires c =
    let a = c.args in
    (read_named a.stored a.chip.version a.text.now _ (sym c.check_voice-line.ensures.result ∙ c.in-Ok.is), (on-queues a.chip a.queues.now c.refusal_with_queues.result c.refusal_with_queues.ensures (ap is_ok c.in_default.is)).0)

pub returns-in-Ok-clause-called : goal.returns-in-Ok-clause-called
unfolding voice_read_called voice_read_queues
returns-in-Ok-clause-called c =
    let a = c.args in
    let on = on-queues a.chip a.queues.now c.refusal_with_queues.result c.refusal_with_queues.ensures (ap is_ok c.in_default.is) in
    let e = on.1 in
    let n = on.0 in
    let r = read_as a.stored a.chip.version a.text.now in
    let v = sym c.check_voice-line.ensures.result ∙ c.in-Ok.is in
    let d = c.load in (c.answers-in-Ok.ensures ∙ ap (λ (x : Chip). line_answered x (Ok tt)) d.ensures.result ∙ voice-called r _ v a.chip ∙ goes-on a.chip a.queues.now _ _ _ n e)

pub returns-in-Ok-clause-queues : goal.returns-in-Ok-clause-queues
unfolding voice_read_called voice_read_queues
returns-in-Ok-clause-queues c =
    let a = c.args in
    let on = on-queues a.chip a.queues.now c.refusal_with_queues.result c.refusal_with_queues.ensures (ap is_ok c.in_default.is) in
    let e = on.1 in
    let n = on.0 in
    let r = read_as a.stored a.chip.version a.text.now in
    let v = sym c.check_voice-line.ensures.result ∙ c.in-Ok.is in
    let d = c.load in (d.ensures.queues ∙ voice-queues r _ v a.queues.now ∙ goes-on a.chip a.queues.now _ _ _ n e)

pub returns-in-Err-line-clause-called : goal.returns-in-Err-line-clause-called
unfolding voice_read_called voice_read_queues
returns-in-Err-line-clause-called c =
    let a = c.args in
    let on = on-queues a.chip a.queues.now c.refusal_with_queues.result c.refusal_with_queues.ensures (ap is_ok c.in_default.is) in
    let e = on.1 in
    let n = on.0 in
    let r = read_as a.stored a.chip.version a.text.now in
    let v = sym c.check_voice-line.ensures.result ∙ c.in-Err-line.is in
    (c.answers-in-Err-line.ensures ∙ ap (line_answered a.chip) (ap (λ (x : LineRefusal). Err x) c.from-in-Err-line.ensures) ∙ refused-called r _ v a.chip ∙ goes-on a.chip a.queues.now _ _ _ n e)

pub returns-in-Err-line-clause-queues : goal.returns-in-Err-line-clause-queues
unfolding voice_read_called voice_read_queues
returns-in-Err-line-clause-queues c =
    let a = c.args in
    let on = on-queues a.chip a.queues.now c.refusal_with_queues.result c.refusal_with_queues.ensures (ap is_ok c.in_default.is) in
    let e = on.1 in
    let n = on.0 in
    let r = read_as a.stored a.chip.version a.text.now in
    let v = sym c.check_voice-line.ensures.result ∙ c.in-Err-line.is in
    (refused-queues r _ v a.queues.now ∙ goes-on a.chip a.queues.now _ _ _ n e)
