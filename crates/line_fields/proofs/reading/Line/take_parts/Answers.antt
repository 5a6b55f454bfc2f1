use Rattle.line_fields.proofs.Numbers.{told-parts}
use mathlib.Core.Path.{sym, ap, ◌∙◌}
use Rattle.std.specs.Prelude.{Err}
use Rattle.std.proofs.lemmas.Result.{err_from_is_err_and}
use Prim.Native.Nat.{◌-◌}
use Rattle.line_fields.specs.Reading.{parts_at}
use Rattle.line_fields.proofs.Taking.{next_field, wrong-field, last-field}
use Rattle.line_fields.proofs.reading.Line.take_parts.Goals as goal

pub returns-in_err-number : goal.returns-in_err-number
returns-in_err-number c =
    let a = c.args in
    let r = err_from_is_err_and c.from_residual.result c.from_residual.ensures.1 in
    let w = wrong-field _ _ c.loop-k.invariant _ c.loop-k-test.true (sym c.part_at.ensures.result ∙ c.in_err-number.was) in
    let t = told-parts _ (parts_at a.self.fifo a.self.text.now (a.to - a.from) a.from a.at) (r.1 ∙ ap Err r.2 ∙ w.0, w.1) in
    record { result = t.0; numbers = t.1.0; number = t.1.1 }

pub loop-k-preserved : goal.loop-k-preserved
loop-k-preserved c =
    next_field _ _ c.loop-k.invariant _ _ c.loop-k-test.true (sym c.part_at.ensures.result ∙ c.in_ok-number.was) c.put_number.ensures

pub returns : goal.returns
returns c =
    let a = c.args in
    let t = told-parts _ (parts_at a.self.fifo a.self.text.now (a.to - a.from) a.from a.at)
    (last-field _ _ c.loop-k.invariant c.loop-k-test.false) in
    record { result = t.0; numbers = t.1.0; number = t.1.1 }
