use mathlib.Core.Path.{sym, ◌∙◌}
use Rattle.session_lines.proofs.Whole.{told-queued, told-yes}
use Rattle.session_lines.proofs.reading.told.Goals as goal

pub returns-then-not-is_allowed : goal.returns-then-not-is_allowed
returns-then-not-is_allowed c = told-queued c.args.line.stored c.args.line.version _ _ c.queue_told-queue.ensures (sym c.is_allowed.ensures ∙ c.if-not-is_allowed.true)

pub returns : goal.returns
returns c = told-yes c.args.line.stored c.args.line.version _ _ c.queue_told-queue.ensures _ (sym c.is_allowed.ensures ∙ c.if-not-is_allowed.false) c.voice.ensures
