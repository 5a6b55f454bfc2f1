use mathlib.Core.Path.{sym, ◌∙◌}
use Rattle.log_state.proofs.Cases.{own-yes, own-no}
use Rattle.log_state.proofs.lines.own_line.Goals as goal

pub returns-then-begins_with : goal.returns-then-begins_with
returns-then-begins_with c = own-yes _ _ (sym c.begins_with.ensures ∙ c.if-begins_with.true)

pub returns : goal.returns
returns c = c.part.ensures ∙ own-no _ _ (sym c.begins_with.ensures ∙ c.if-begins_with.false)
