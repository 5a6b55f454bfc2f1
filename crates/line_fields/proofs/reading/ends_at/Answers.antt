use mathlib.Core.Path.{sym}
use Rattle.line_fields.proofs.Taking.{ends-in, ends-out}
use Rattle.line_fields.proofs.reading.ends_at.Goals as goal

pub returns-then-at-text : goal.returns-then-at-text
returns-then-at-text c = sym (ends-in _ _ c.if-at-text.true)

pub returns : goal.returns
returns c = sym (ends-out _ _ c.if-at-text.false)
