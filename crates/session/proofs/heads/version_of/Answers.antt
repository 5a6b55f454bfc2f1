use Rattle.std.specs.Prelude.{Ok, Err, is_ok}
use Rattle.s3w2.specs.declared.Refusal.{Refusal}
use Rattle.session_lines.specs.declared.SessionHead.{SessionHead}
use Rattle.session.specs.declared.LineRefusal.TheVariants.{OfChip}
use Rattle.session.specs.Answers.{line_answered}
use mathlib.Core.Path.{ap, sym, ◌∙◌}
use Rattle.session.specs.Heads.{head_answered, read_head_called}
use Rattle.session.proofs.Lines.{away-ram, handed, on-ram, goes_over, head-set, head-other, head-sized, head-fault}
use Rattle.session.proofs.heads.version_of.Goals as goal

pub returns-in_err-refusal_with_ram : goal.returns-in_err-refusal_with_ram
unfolding read_head_called
returns-in_err-refusal_with_ram c =
    let chip = c.args.chip in
    let r = c.refusal_with_ram in
    ap (head_answered chip) (handed c.from_residual.result _ c.from_residual.ensures.1)
    ∙ away-ram chip _ (λ (x : Refusal). line_answered chip (Err (OfChip x))) r.result _ c.in_err-refusal_with_ram.was _ r.ensures

pub returns-in_err-version : goal.returns-in_err-version
unfolding read_head_called
returns-in_err-version c =
    let chip = c.args.chip in
    let on = on-ram chip _ c.refusal_with_ram.result c.refusal_with_ram.ensures (ap is_ok c.in_ok-refusal_with_ram.was) in
    let k = c.from_residual-in_err-version in
    ap (head_answered chip) (handed k.result _ k.ensures.1)
    ∙ head-fault chip _ c.args.text.now _ (sym c.read_head.ensures.result ∙ c.in_err-version.was) ∙ goes_over chip _ _ _ _ on.0 on.1

pub returns-in-Version : goal.returns-in-Version
unfolding read_head_called
returns-in-Version c =
    let chip = c.args.chip in
    let on = on-ram chip _ c.refusal_with_ram.result c.refusal_with_ram.ensures (ap is_ok c.in_ok-refusal_with_ram.was) in
    head-set chip _ c.args.text.now _ (sym c.read_head.ensures.result ∙ c.in_ok-version.was ∙ ap (λ (h : SessionHead). Ok h) c.in-Version.is)
    ∙ goes_over chip _ _ _ _ on.0 on.1

pub returns-then-size-ram : goal.returns-then-size-ram
unfolding read_head_called
returns-then-size-ram c =
    let chip = c.args.chip in
    let on = on-ram chip _ c.refusal_with_ram.result c.refusal_with_ram.ensures (ap is_ok c.in_ok-refusal_with_ram.was) in
    head-other chip _ c.args.text.now _ _ (sym c.read_head.ensures.result ∙ c.in_ok-version.was ∙ ap (λ (h : SessionHead). Ok h) c.in-Sized.is) c.if-size-ram.true
    ∙ goes_over chip _ _ _ _ on.0 on.1

pub returns-else-size-ram : goal.returns-else-size-ram
unfolding read_head_called
returns-else-size-ram c =
    let chip = c.args.chip in
    let on = on-ram chip _ c.refusal_with_ram.result c.refusal_with_ram.ensures (ap is_ok c.in_ok-refusal_with_ram.was) in
    head-sized chip _ c.args.text.now _ _ (sym c.read_head.ensures.result ∙ c.in_ok-version.was ∙ ap (λ (h : SessionHead). Ok h) c.in-Sized.is) c.if-size-ram.false
    ∙ goes_over chip _ _ _ _ on.0 on.1
