use Rattle.std.specs.Prelude.{Option}
use Rattle.std.proofs.Common.{ℕ, ◌%◌, Bool, ltb, sym, ap, ◌∙◌, eq-eqb, ne_eqb}
use Rattle.stream.specs.Accepted.{both, half_fits}
use Rattle.stream.proofs.accepted.is_half_fit.Goals as goal

pub returns-in_default : goal.returns-in_default
unfolding half_fits
returns-in_default c =
    let a = c.args in sym (ap (λ (x : Option ℕ). half_fits x a.parity a.frames) c.in_default.is)

pub returns-then-f-parity : goal.returns-then-f-parity
unfolding half_fits
returns-then-f-parity c =
    let a = c.args in
    let g = c.in-Some in
    sym (ap (λ (x : Option ℕ). half_fits x a.parity a.frames) g.is ∙ ap (λ (b : Bool). both b (ltb g.f a.frames)) (ne_eqb (g.f % 2) a.parity c.if-f-parity.true))

pub returns : goal.returns
unfolding half_fits
returns c =
    let a = c.args in
    let g = c.in-Some in
    sym (ap (λ (x : Option ℕ). half_fits x a.parity a.frames) g.is ∙ ap (λ (b : Bool). both b (ltb g.f a.frames)) (eq-eqb (g.f % 2) a.parity c.if-f-parity.false))
