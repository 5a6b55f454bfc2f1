use mathlib.Core.Path.{sym, ◌∙◌}
use Rattle.sqv4.specs.Files.{fault_in}
use Rattle.sqv4.proofs.check.fault_in.Goals as goal

pub returns-then-bad_step : goal.returns-then-bad_step
unfolding fault_in
returns-then-bad_step c =
    rw (c.byte_at-index.ensures, rw c.byte_at-index.ensures at (sym c.bad_step.ensures ∙ c.if-bad_step.true))

pub returns-then-clean : goal.returns-then-clean
unfolding fault_in
returns-then-clean c =
    let e = c.before.before.before in
    rw ((rw e.byte_at-index.ensures at (sym e.bad_step.ensures ∙ e.if-bad_step.false)), rw (c.tail.ensures, c.prefix_of.ensures.result) at (sym c.clean.ensures ∙ c.if-clean.true))

pub returns-else-clean : goal.returns-else-clean
unfolding fault_in
returns-else-clean c =
    let e = c.before.before.before in
    rw ((rw e.byte_at-index.ensures at (sym e.bad_step.ensures ∙ e.if-bad_step.false)), rw (c.tail.ensures, c.prefix_of.ensures.result) at (sym c.clean.ensures ∙ c.if-clean.false))
