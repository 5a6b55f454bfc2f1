use Rattle.std.specs.Prelude.{Ok, is_ok}
use mathlib.Core.Path.{ap, ◌∙◌}
use Rattle.s3w2.specs.declared.Chip.{Chip}
use Rattle.s3w2.specs.declared.Returned.TheVariants.{Done}
use Rattle.s3w2.specs.Answers.{answered}
use Rattle.s3w2.specs.Fresh.{reset_called, reset_ram}
use Rattle.s3w2.proofs.Refused.{away, stays, goes-on, goes-called}
use Rattle.s3w2.proofs.Cases.{cores-are}
use Rattle.s3w2.proofs.Chip.reset.Goals as goal

pub returns-in-Err-clause-called : goal.returns-in-Err-clause-called
unfolding reset_called reset_ram
returns-in-Err-clause-called c =
    (c.answers.ensures ∙ away c.refusal_with_ram.result _ c.refusal_with_ram.ensures _ c.in-Err.is _ _)

pub returns-in-Err-clause-ram : goal.returns-in-Err-clause-ram
unfolding reset_called reset_ram
returns-in-Err-clause-ram c =
    (stays c.refusal_with_ram.result _ c.refusal_with_ram.ensures _ _ (ap is_ok c.in-Err.is))

pub returns-clause-called : goal.returns-clause-called
unfolding reset_called reset_ram
returns-clause-called c =
    let a = c.args in (goes-called c.refusal_with_ram.result _ c.refusal_with_ram.ensures _ _ _ (ap is_ok c.in_default.is)
    (c.answers-2.ensures ∙ ap (λ (x : Chip). answered x (Ok Done)) (c.with_cores-chip.ensures ∙ cores-are a.self _ _ _ _ c.default.ensures c.default-2.ensures)))

pub returns-clause-ram : goal.returns-clause-ram
unfolding reset_called reset_ram
returns-clause-ram c =
    let a = c.args in (c.zero.ensures ∙ goes-on c.refusal_with_ram.result _ c.refusal_with_ram.ensures _ _ (ap is_ok c.in_default.is))
