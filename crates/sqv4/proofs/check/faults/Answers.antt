use native.Mathlib.Omega.{arith}
use mathlib.Core.Path.{sym, ap, ◌∙◌}
use Rattle.std.specs.Prelude.{Err}
use Rattle.std.proofs.lemmas.Result.{err_from_is_err_and}
use Rattle.sqv4.proofs.Checks.{turn, room, rest_all, faults-none}
use Rattle.sqv4.proofs.check.faults.Goals as goal

pub slice_bounds-fault_in-end : goal.slice_bounds-fault_in-end
slice_bounds-fault_in-end c = omega (arith, c.loop-position.invariant.0, room _ _ c.loop-position.position c.requires c.loop-position-test.true)

pub returns-in_err-fault_in : goal.returns-in_err-fault_in
returns-in_err-fault_in c =
    let a = c.args in
    let l = c.loop-position in
    let p = err_from_is_err_and c.from_residual.result c.from_residual.ensures.1 in
    let turned = turn a.file.now a.header l.position l.at _ _ c.loop-position-test.true l.invariant.0 c.used_at.ensures.result c.in_err-fault_in.ensures in
    p.1 ∙ ap Err p.2.0 ∙ sym turned ∙ l.invariant.1 ∙ rest_all a.file.now a.header

pub loop-position-preserved : goal.loop-position-preserved
loop-position-preserved c =
    let a = c.args in
    let l = c.loop-position in
    let turned = turn a.file.now a.header l.position l.at _ _ c.loop-position-test.true l.invariant.0 c.used_at.ensures.result c.in_ok-fault_in.ensures in
    (omega (arith, l.invariant.0), sym turned ∙ l.invariant.1)

pub returns : goal.returns
returns c =
    let a = c.args in
    let l = c.loop-position in
    sym (faults-none a.file.now a.header l.position c.loop-position-test.false) ∙ l.invariant.1 ∙ rest_all a.file.now a.header
