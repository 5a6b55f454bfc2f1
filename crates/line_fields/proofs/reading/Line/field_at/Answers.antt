use mathlib.Core.Path.{sym, ap, ◌∙◌}
use Prim.Native.Nat.{ℕ, ◌+◌}
use Rattle.line_fields.specs.Table.{most_of}
use Rattle.line_fields.specs.Reading.{natural_of, sample_of16}
use Rattle.line_fields.proofs.Taking.{field-sample, field-natural}
use Rattle.line_fields.proofs.reading.Line.field_at.Goals as goal

pub returns-then-is_sample : goal.returns-then-is_sample
returns-then-is_sample c =
    c.sample_of.ensures ∙ ap (sample_of16 _) c.take_number.ensures
    ∙ sym (field-sample _ _ _ _ (sym c.is_sample.ensures ∙ c.if-is_sample.true))

pub returns : goal.returns
returns c =
    let a = c.args in
    c.natural_of.ensures
    ∙ ap (λ (m : ℕ). natural_of (a.k + 1) m c.take_natural.result) c.most.ensures
    ∙ ap (natural_of (a.k + 1) (most_of a.self.fifo a.k)) c.take_natural.ensures
    ∙ sym (field-natural a.self.fifo a.k a.self.text.now a.at (sym c.is_sample.ensures ∙ c.if-is_sample.false))
