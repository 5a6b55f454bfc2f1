use Rattle.std.specs.Prelude.{Ok, is_ok}
use mathlib.Core.Path.{ap, ◌∙◌}
use native.Mathlib.Omega.{arith}
use lib.IntN.{ℤ}
use lib.ListN.{length}
use mir.Syntax.{w16}
use mir.Val.{SFits}
use borrow.Author.Rules.{rules}
use borrow.Author.Tests.{eqb-true}
use Rattle.cores.specs.Sizes.{chip_queues}
use Rattle.num.proofs.Integers.{back}
use Rattle.s3w2.specs.declared.Returned.TheVariants.{Sample}
use Rattle.s3w2.specs.Answers.{answered}
use Rattle.s3w2.specs.Chips.{with_core_at}
use Rattle.chip_sound.specs.Sound.{generate_sample_called}
use Rattle.s3w2.proofs.Refused.{away, goes-called}
use Rattle.s3w2.proofs.Cases.{all_there}
use Rattle.chip_sound.proofs.Sounds.{in-chip, core-none, sample-none, sample-some}
use Rattle.chip_sound.proofs.sound.generate_sample.Goals as goal

pub returns-in-Err-clause-called : goal.returns-in-Err-clause-called
unfolding generate_sample_called
returns-in-Err-clause-called c =
    let r = c.refusal_of_sound in
    (c.answers.ensures ∙ away r.result _ r.ensures _ c.in-Err.is _ _)

pub returns-then-core_count-core-clause-called : goal.returns-then-core_count-core-clause-called
unfolding generate_sample_called
returns-then-core_count-core-clause-called c =
    let a = c.args in
    let r = c.refusal_of_sound in
    let done = ap is_ok c.in_default.is in
    let count = c.core_count in
    (goes-called r.result _ r.ensures _ _ _ done (c.answers-then-core_count-core.ensures ∙ core-none a.chip a.ram.now a.queues.now a.core a.ch (omega (arith, count.ensures, c.if-core_count-core.true))))

pub returns-then-ch-gt-LAST_CHANNEL-clause-called : goal.returns-then-ch-gt-LAST_CHANNEL-clause-called
unfolding generate_sample_called
returns-then-ch-gt-LAST_CHANNEL-clause-called c =
    let a = c.args in
    let r = c.refusal_of_sound in
    let done = ap is_ok c.in_default.is in
    let count = c.core_count in
    (goes-called r.result _ r.ensures _ _ _ done (c.answers-then-ch-gt-LAST_CHANNEL.ensures ∙ sample-none a.chip a.ram.now a.queues.now a.core a.ch (omega (arith, count.ensures, c.if-core_count-core.false)) c.if-ch-gt-LAST_CHANNEL.true))

pub slice_bounds-tick-end : goal.slice_bounds-tick-end
slice_bounds-tick-end c =
    let r = c.refusal_of_sound in
    let t = all_there _ _ _ _ r.result r.ensures (ap is_ok c.in_default.is) in
    let lent = eqb-true (length c.args.queues.now) chip_queues t.lent in
    omega (arith, lent, in-chip c.args.chip.version c.core_count.result c.args.core c.core_count.ensures c.if-core_count-core.false)

pub returns-clause-called : goal.returns-clause-called
unfolding generate_sample_called
returns-clause-called c =
    let a = c.args in
    let r = c.refusal_of_sound in
    let done = ap is_ok c.in_default.is in
    let t = all_there _ _ _ _ r.result r.ensures done in
    let lent = eqb-true (length a.queues.now) chip_queues t.lent in
    let count = c.core_count in
    let tick = c.tick-turned in
    let off = c.turned_off-ended in
    let f : SFits w16 tick.result.sample = search rules in
    let given = sample-some a.chip a.ram.now a.queues.now a.core a.ch (omega (arith, count.ensures, c.if-core_count-core.false)) tick.result.core tick.result.sample off.result c.if-ch-gt-LAST_CHANNEL.false lent tick.ensures.result off.ensures in
    (goes-called r.result _ r.ensures _ _ _ done (c.answers-2.ensures ∙ ap (λ (x : ℤ). answered (with_core_at a.chip a.core tick.result.core) (Ok (Sample x off.result))) (back w16 tick.result.sample f) ∙ given))
