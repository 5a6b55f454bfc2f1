use Rattle.std.specs.Prelude.{Ok, Err}
use mathlib.Core.Path.{refl, sym, ap, ap₂, ◌∙◌}
use mathlib.Core.Bool.{true}
use mathlib.Core.List.{[], ◌∷◌}
use Rattle.voices.specs.declared.Core.{Core}
use Rattle.s3w2.specs.declared.Returned.TheVariants.{Done}
use Rattle.s3w2.specs.declared.Refusal.TheVariants.{RamLength}
use Rattle.s3w2.specs.Answers.{Checked, done_unless, answered}
use Rattle.s3w2.specs.Chips.{fresh_chip}
use Rattle.s3w2.specs.Fresh.{made_called, made_ram}
use Rattle.s3w2.proofs.Refused.{no-ram, nothing-amiss, stays, goes-on}
use Rattle.s3w2.proofs.Chip.with_version.Goals as goal

pub returns-then-not-is_ram_length-clause-called : goal.returns-then-not-is_ram_length-clause-called
unfolding made_called made_ram
returns-then-not-is_ram_length-clause-called c =
    let v = c.args.version in
    let e = no-ram _ true true true (sym c.is_ram_length.ensures ∙ c.if-not-is_ram_length.true) in (c.answers.ensures ∙ ap₂ (λ (x y : Core). answered (record { version = v; cores = x ∷ y ∷ [] }) (Err RamLength)) c.default.ensures c.default-2.ensures ∙ ap (λ (r : Checked). answered (fresh_chip v) (done_unless r)) e)

pub returns-then-not-is_ram_length-clause-ram : goal.returns-then-not-is_ram_length-clause-ram
unfolding made_called made_ram
returns-then-not-is_ram_length-clause-ram c =
    let e = no-ram _ true true true (sym c.is_ram_length.ensures ∙ c.if-not-is_ram_length.true) in (stays (Err RamLength) _ e _ _ refl)

pub returns-clause-called : goal.returns-clause-called
unfolding made_called made_ram
returns-clause-called c =
    let v = c.args.version in
    let e = nothing-amiss _ true true true (sym c.is_ram_length.ensures ∙ c.if-not-is_ram_length.false) refl refl refl in (c.answers-2.ensures ∙ ap₂ (λ (x y : Core). answered (record { version = v; cores = x ∷ y ∷ [] }) (Ok Done)) c.default.ensures c.default-2.ensures ∙ ap (λ (r : Checked). answered (fresh_chip v) (done_unless r)) e)

pub returns-clause-ram : goal.returns-clause-ram
unfolding made_called made_ram
returns-clause-ram c =
    let e = nothing-amiss _ true true true (sym c.is_ram_length.ensures ∙ c.if-not-is_ram_length.false) refl refl refl in (c.zero.ensures ∙ goes-on (Ok tt) _ e _ _ refl)
