use Rattle.std.specs.Prelude.{is_ok}
use mathlib.Core.Path.{sym, ap, ◌∙◌}
use Rattle.s3w2.specs.declared.Refusal.{Refusal}
use Rattle.std.specs.Prelude.{Err}
use Rattle.session.specs.declared.LineRefusal.TheVariants.{OfChip}
use Rattle.session.specs.Answers.{wrote}
use Rattle.session.specs.Heads.{write_head_answer, write_head_text}
use Rattle.session.proofs.Lines.{away-ram, handed, no-room, on-ram, goes_over}
use Rattle.session.proofs.heads.write_head.Goals as goal

pub returns-in_err-refusal_with_ram-clause-answer : goal.returns-in_err-refusal_with_ram-clause-answer
unfolding write_head_answer
returns-in_err-refusal_with_ram-clause-answer c =
    let r = c.refusal_with_ram in
    handed c.from_residual.result _ c.from_residual.ensures.1 ∙ away-ram c.args.chip _ (λ (x : Refusal). Err (OfChip x)) r.result _ c.in_err-refusal_with_ram.was _ r.ensures

pub returns-in_err-refusal_with_ram-clause-out : goal.returns-in_err-refusal_with_ram-clause-out
unfolding write_head_text
returns-in_err-refusal_with_ram-clause-out c =
    let r = c.refusal_with_ram in
    away-ram c.args.chip _ (λ (x : Refusal). c.args.out.now) r.result _ c.in_err-refusal_with_ram.was _ r.ensures

pub returns-clause-answer : goal.returns-clause-answer
unfolding write_head_answer
returns-clause-answer c =
    let r = c.refusal_with_ram in
    let on = on-ram c.args.chip _ r.result r.ensures (ap is_ok c.in_ok-refusal_with_ram.was) in
    sym (ap wrote c.in_ok-write_head.was) ∙ ap wrote c.write_head.ensures.result ∙ goes_over c.args.chip _ _ _ _ on.0 on.1

pub returns-clause-out : goal.returns-clause-out
unfolding write_head_text
returns-clause-out c =
    let r = c.refusal_with_ram in
    let on = on-ram c.args.chip _ r.result r.ensures (ap is_ok c.in_ok-refusal_with_ram.was) in
    c.write_head.ensures.out ∙ goes_over c.args.chip _ _ _ _ on.0 on.1

pub returns-in_err-write_head-clause-answer : goal.returns-in_err-write_head-clause-answer
unfolding write_head_answer
returns-in_err-write_head-clause-answer c =
    let r = c.refusal_with_ram in
    let on = on-ram c.args.chip _ r.result r.ensures (ap is_ok c.in_ok-refusal_with_ram.was) in
    let k = c.from_residual-in_err-write_head in
    handed k.result _ k.ensures.1 ∙ no-room _ _ c.in_err-write_head.was ∙ ap wrote c.write_head.ensures.result ∙ goes_over c.args.chip _ _ _ _ on.0 on.1

pub returns-in_err-write_head-clause-out : goal.returns-in_err-write_head-clause-out
unfolding write_head_text
returns-in_err-write_head-clause-out c =
    let r = c.refusal_with_ram in
    let on = on-ram c.args.chip _ r.result r.ensures (ap is_ok c.in_ok-refusal_with_ram.was) in
    c.write_head.ensures.out ∙ goes_over c.args.chip _ _ _ _ on.0 on.1
