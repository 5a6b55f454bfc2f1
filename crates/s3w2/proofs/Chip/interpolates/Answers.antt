use Rattle.std.specs.Prelude.{Ok, is_ok}
use Rattle.voices.specs.Reads.{interpolates_at}
use mathlib.Core.Path.{ap, ◌∙◌}
use mathlib.Core.Bool.{Bool, false}
use Rattle.voices.specs.declared.Core.{Core}
use Rattle.s3w2.specs.declared.Returned.TheVariants.{Flag}
use Rattle.s3w2.specs.Channels.{interpolates_answer}
use Rattle.s3w2.proofs.Refused.{tells-away}
use Rattle.s3w2.proofs.Cases.{tells_none, tells, at-core}
use Rattle.s3w2.proofs.Chip.interpolates.Goals as goal

pub returns-in_err-refusal : goal.returns-in_err-refusal
unfolding interpolates_answer
returns-in_err-refusal c =
    tells-away c.refusal.result _ c.refusal.ensures _ c.in_err-refusal.was _ _ c.from_residual.ensures.1

pub returns-then-core-gt-LAST_CORE : goal.returns-then-core-gt-LAST_CORE
unfolding interpolates_answer
returns-then-core-gt-LAST_CORE c =
    let a = c.args in
    tells_none c.refusal.result _ c.refusal.ensures (ap is_ok c.in_ok-refusal.was) a.core (λ (x : Bool). Ok (Flag x)) _ false c.if-core-gt-LAST_CORE.true

pub returns : goal.returns
unfolding interpolates_answer
returns c =
    let a = c.args in
    tells c.refusal.result _ c.refusal.ensures (ap is_ok c.in_ok-refusal.was) a.core (λ (x : Bool). Ok (Flag x)) _ false _ c.if-core-gt-LAST_CORE.false (c.interpolates.ensures ∙ ap (λ (v : Core). interpolates_at a.self.version v a.ch) (at-core a.self a.core _ c.if-core-gt-LAST_CORE.false c.core_at-voices.ensures))
