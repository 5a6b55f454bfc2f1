use mathlib.Core.Path.{sym, ◌∙◌}
use Rattle.session_lines.proofs.Heads.{comma, open-end, two_fields}
use Rattle.session_lines.proofs.head.versioned.Goals as goal

pub returns-then-byte_at-eq44 : goal.returns-then-byte_at-eq44
returns-then-byte_at-eq44 c = c.sized.ensures ∙ sym (comma _ _ _ (sym c.byte_at.ensures ∙ c.if-byte_at-eq44.true))

pub returns-then-not-closed : goal.returns-then-not-closed
returns-then-not-closed c = sym (open-end _ _ _ (λ e. c.if-byte_at-eq44.false (c.byte_at.ensures ∙ e)) (sym c.closed.ensures ∙ c.if-not-closed.true))

pub returns : goal.returns
returns c = sym (two_fields _ _ _ (λ e. c.if-byte_at-eq44.false (c.byte_at.ensures ∙ e)) (sym c.closed.ensures ∙ c.if-not-closed.false))
