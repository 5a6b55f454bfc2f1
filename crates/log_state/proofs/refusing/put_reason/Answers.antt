use mathlib.Core.Path.{sym, subst, ap, ◌∙◌}
use mathlib.Core.List.{[], ◌∷◌, ◌++◌}
use Prim.Native.Nat.{ℕ}
use Rattle.output.specs.Output.{Puts}
use Rattle.decimal.specs.Written.{decimal}
use Rattle.log_state.proofs.Refused.{field-line, number-line}
use Rattle.log_state.proofs.refusing.put_reason.Goals as goal

pub returns-in-Some : goal.returns-in-Some
returns-in-Some c = subst (Puts _ _) (field-line c.args.refusal _ (sym c.field.ensures ∙ c.in-Some.is)) c.put_line.ensures

pub returns-in-None : goal.returns-in-None
returns-in-None c =
    subst (Puts _ _) (ap (λ (n : ℕ). (98 ∷ 97 ∷ 100 ∷ 44 ∷ []) ++ (decimal n ++ (10 ∷ []))) c.number.ensures ∙ number-line c.args.refusal (sym c.field.ensures ∙ c.in-None.is)) c.put_line-in-None.ensures
