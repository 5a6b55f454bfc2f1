use Rattle.line_fields.specs.Reading.{part_number}
use mathlib.Core.Path.{sym, ap, ◌∙◌}
use Rattle.line_fields.proofs.Taking.{part-first, part-next, part-missing, part-before}
use Rattle.line_fields.proofs.reading.Line.part_at.Goals as goal

pub returns-then-k-eq0-clause-result : goal.returns-then-k-eq0-clause-result
returns-then-k-eq0-clause-result c = c.field_at.ensures ∙ sym (part-first _ _ _ _ c.if-k-eq0.true)

pub returns-then-k-eq0-clause-number : goal.returns-then-k-eq0-clause-number
returns-then-k-eq0-clause-number c = ap part_number (c.field_at.ensures ∙ sym (part-first _ _ _ _ c.if-k-eq0.true))

pub returns-then-byte_at-eq44-clause-result : goal.returns-then-byte_at-eq44-clause-result
returns-then-byte_at-eq44-clause-result c =
    c.field_at-then-byte_at-eq44.ensures
    ∙ sym (part-next _ _ _ _ c.if-k-eq0.false (sym c.byte_at.ensures ∙ c.if-byte_at-eq44.true))

pub returns-then-byte_at-eq44-clause-number : goal.returns-then-byte_at-eq44-clause-number
returns-then-byte_at-eq44-clause-number c =
    ap part_number
    (c.field_at-then-byte_at-eq44.ensures
    ∙ sym (part-next _ _ _ _ c.if-k-eq0.false (sym c.byte_at.ensures ∙ c.if-byte_at-eq44.true)))

pub returns-then-ends_at-clause-result : goal.returns-then-ends_at-clause-result
returns-then-ends_at-clause-result c =
    sym (part-missing _ _ _ _ c.if-k-eq0.false (λ e. c.if-byte_at-eq44.false (c.byte_at.ensures ∙ e)) (sym c.ends_at.ensures ∙ c.if-ends_at.true))

pub returns-then-ends_at-clause-number : goal.returns-then-ends_at-clause-number
returns-then-ends_at-clause-number c =
    let a = c.args in
    ap part_number
    (sym (part-missing a.self.fifo a.k a.self.text.now a.at c.if-k-eq0.false (λ e. c.if-byte_at-eq44.false (c.byte_at.ensures ∙ e)) (sym c.ends_at.ensures ∙ c.if-ends_at.true)))

pub returns-clause-result : goal.returns-clause-result
returns-clause-result c =
    sym (part-before _ _ _ _ c.if-k-eq0.false (λ e. c.if-byte_at-eq44.false (c.byte_at.ensures ∙ e)) (sym c.ends_at.ensures ∙ c.if-ends_at.false))

pub returns-clause-number : goal.returns-clause-number
returns-clause-number c =
    let a = c.args in
    ap part_number
    (sym (part-before a.self.fifo a.k a.self.text.now a.at c.if-k-eq0.false (λ e. c.if-byte_at-eq44.false (c.byte_at.ensures ∙ e)) (sym c.ends_at.ensures ∙ c.if-ends_at.false)))
