use mathlib.Core.Path.{sym, ap, ◌∙◌}
use Rattle.std.specs.Prelude.{Err}
use Rattle.std.proofs.lemmas.Result.{err_from_is_err_and}
use native.Mathlib.Omega.{arith}
use Rattle.line_fields.proofs.Taking.{queue-taken, queue-stored, queue-refused}
use Rattle.line_fields.proofs.Bounds.{count-range}
use Rattle.line_fields.proofs.reading.Line.read_queue.Goals as goal

pub overflow_add-to : goal.overflow_add-to
overflow_add-to c = omega (arith, count-range _ _ _ _ _ (sym c.part_at.ensures.result ∙ c.in_ok-count.was))

pub take_parts-samples-requires : goal.take_parts-samples-requires
take_parts-samples-requires c = omega (arith, count-range _ _ _ _ _ (sym c.part_at.ensures.result ∙ c.in_ok-count.was))

pub close-requires : goal.close-requires
close-requires c = omega (arith, count-range _ _ _ _ _ (sym c.part_at.ensures.result ∙ c.in_ok-count.was))

pub returns-clause-result : goal.returns-clause-result
returns-clause-result c =
    c.close.ensures ∙ queue-taken _ _ _ _ _ _ (sym c.part_at.ensures.result ∙ c.in_ok-count.was) c.take_parts-samples.ensures.result

pub returns-clause-numbers : goal.returns-clause-numbers
returns-clause-numbers c =
    queue-stored _ _ _ _ _ _ _ _ (sym c.part_at.ensures.result ∙ c.in_ok-count.was) c.put_number.ensures c.take_parts-samples.ensures.numbers

pub returns-in_err-count : goal.returns-in_err-count
returns-in_err-count c =
    let a = c.args in
    let r = err_from_is_err_and c.from_residual.result c.from_residual.ensures.1 in
    let t = queue-refused a.self.fifo a.self.text.now a.at _ a.numbers.now (sym c.part_at.ensures.result ∙ c.in_err-count.was) in
    record { result = r.1 ∙ ap Err r.2 ∙ t.0; numbers = t.1 }
