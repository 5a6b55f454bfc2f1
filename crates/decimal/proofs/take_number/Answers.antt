use mathlib.Core.Path.{sym, ap, ◌∙◌}
use Rattle.decimal.proofs.Reading.{number-minus, number-plus}
use Rattle.decimal.specs.Read.{negative, positive}
use Rattle.decimal.proofs.take_number.Goals as goal

pub returns-then-byte_at-eq45 : goal.returns-then-byte_at-eq45
returns-then-byte_at-eq45 c =
    c.negated.ensures ∙ ap negative c.take_natural.ensures
    ∙ sym (number-minus _ _ (sym c.byte_at.ensures ∙ c.if-byte_at-eq45.true))

pub returns : goal.returns
returns c =
    c.unsigned.ensures ∙ ap positive c.take_natural-2.ensures
    ∙ sym (number-plus _ _ (λ e. c.if-byte_at-eq45.false (c.byte_at.ensures ∙ e)))
