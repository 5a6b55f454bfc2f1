use Rattle.std.specs.Prelude.{Ok, is_ok}
use mathlib.Core.Path.{ap, ◌∙◌}
use lib.ListN.{length}
use borrow.Author.Tests.{eqb-true}
use Rattle.cores.specs.Sizes.{chip_queues}
use Rattle.s3w2.specs.declared.Chip.{Chip}
use Rattle.s3w2.specs.declared.Returned.TheVariants.{Done}
use Rattle.s3w2.specs.Answers.{answered}
use Rattle.chip_sound.specs.Mixing.{mixed_answered, mixed_left, mixed_right}
use Rattle.s3w2.proofs.Refused.{away, stays, goes-on, goes-called}
use Rattle.s3w2.proofs.Cases.{all_there}
use Rattle.chip_sound.proofs.mixing.clock_mixed_into.Goals as goal

pub returns-in-Err-clause-called : goal.returns-in-Err-clause-called
unfolding mixed_answered mixed_left mixed_right
returns-in-Err-clause-called c =
    let r = c.refusal_of_sound in
    let no = ap is_ok c.in-Err.is in
    (c.answers.ensures ∙ away r.result _ r.ensures _ c.in-Err.is _ _)

pub returns-in-Err-clause-left : goal.returns-in-Err-clause-left
unfolding mixed_answered mixed_left mixed_right
returns-in-Err-clause-left c =
    let r = c.refusal_of_sound in
    let no = ap is_ok c.in-Err.is in
    (stays r.result _ r.ensures _ _ no)

pub returns-in-Err-clause-right : goal.returns-in-Err-clause-right
unfolding mixed_answered mixed_left mixed_right
returns-in-Err-clause-right c =
    let r = c.refusal_of_sound in
    let no = ap is_ok c.in-Err.is in
    (stays r.result _ r.ensures _ _ no)

pub mix-after-requires : goal.mix-after-requires
mix-after-requires c =
    let r = c.refusal_of_sound in
    let t = all_there _ _ _ _ r.result r.ensures (ap is_ok c.in_default.is) in
    (t.accepted, eqb-true (length c.args.queues.now) chip_queues t.lent)

pub returns-clause-called : goal.returns-clause-called
unfolding mixed_answered
returns-clause-called c =
    let r = c.refusal_of_sound in
    let done = ap is_ok c.in_default.is in
    goes-called r.result _ r.ensures _ _ _ done (c.answers-2.ensures ∙ ap (λ (x : Chip). answered x (Ok Done)) c.mix-after.ensures.result)

pub returns-clause-left : goal.returns-clause-left
unfolding mixed_left
returns-clause-left c =
    let r = c.refusal_of_sound in
    c.mix-after.ensures.left ∙ goes-on r.result _ r.ensures _ _ (ap is_ok c.in_default.is)

pub returns-clause-right : goal.returns-clause-right
unfolding mixed_right
returns-clause-right c =
    let r = c.refusal_of_sound in
    c.mix-after.ensures.right ∙ goes-on r.result _ r.ensures _ _ (ap is_ok c.in_default.is)
