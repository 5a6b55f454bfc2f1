use Rattle.line_fields.proofs.Numbers.{told_line}
use mathlib.Core.Path.{sym, ap, ◌∙◌}
use Rattle.std.specs.Prelude.{Err}
use Rattle.std.proofs.lemmas.Result.{err_from_is_err_and}
use Rattle.line_fields.specs.Reading.{read_line}
use Rattle.line_fields.proofs.Taking.{line_taken, line_refused}
use Rattle.line_fields.proofs.reading.read_line.Goals as goal

pub returns : goal.returns
returns c =
    let a = c.args in
    let f = c.take_parts.ensures in
    let t = told_line _ (read_line a.fifo a.text.now)
    (line_taken a.fifo a.text.now _ _ _ _ _ (sym c.in_ok-next.was ∙ f.result) f.numbers c.read_queue.ensures.result c.read_queue.ensures.numbers) in
    record { result = t.0; numbers = t.1.0; number = t.1.1 }

pub returns-in_err-next : goal.returns-in_err-next
returns-in_err-next c =
    let a = c.args in
    let f = c.take_parts.ensures in
    let r = err_from_is_err_and c.from_residual.result c.from_residual.ensures.1 in
    let w = line_refused a.fifo a.text.now _ _ _ (sym c.in_err-next.was ∙ f.result) f.numbers in
    let t = told_line _ (read_line a.fifo a.text.now) (r.1 ∙ ap Err r.2 ∙ w.0, w.1) in
    record { result = t.0; numbers = t.1.0; number = t.1.1 }
