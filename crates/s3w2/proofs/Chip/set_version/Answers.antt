use Rattle.std.specs.Prelude.{Ok, is_ok}
use mathlib.Core.Path.{ap, ap₂, ◌∙◌}
use mathlib.Core.List.{[], ◌∷◌}
use Rattle.voices.specs.declared.Core.{Core}
use Rattle.voices.specs.Core.{set_core_version}
use Rattle.s3w2.specs.declared.Returned.TheVariants.{Done}
use Rattle.s3w2.specs.Answers.{answered}
use Rattle.s3w2.specs.Fresh.{set_version_called}
use Rattle.s3w2.proofs.Refused.{away, goes-called}
use Rattle.s3w2.proofs.Chip.set_version.Goals as goal

pub returns-in-Err : goal.returns-in-Err
unfolding set_version_called
returns-in-Err c =
    c.answers.ensures ∙ away c.refusal.result _ c.refusal.ensures _ c.in-Err.is _ _

pub returns : goal.returns
unfolding set_version_called
returns c =
    let a = c.args in
    goes-called c.refusal.result _ c.refusal.ensures _ _ _ (ap is_ok c.in_default.is)
    (c.answers-2.ensures ∙ ap₂ (λ (x y : Core). answered (record { version = a.version; cores = x ∷ y ∷ [] }) (Ok Done)) (c.set_version.ensures ∙ ap (λ (v : Core). set_core_version v a.version) c.core_at-first.ensures) (c.set_version-2.ensures ∙ ap (λ (v : Core). set_core_version v a.version) c.core_at-second.ensures))
