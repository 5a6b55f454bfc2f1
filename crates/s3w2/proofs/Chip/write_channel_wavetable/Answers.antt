use Rattle.std.specs.Prelude.{Ok, is_ok}
use mathlib.Core.Path.{ap, ◌∙◌}
use Prim.Native.Nat.{◌+◌, ◌*◌}
use native.Mathlib.Omega.{arith}
use Rattle.sizes.specs.Sizes.{num_channels}
use Rattle.cores.specs.Sizes.{num_cores}
use Rattle.voices.specs.declared.Core.{Core}
use Rattle.voices.specs.Writes.{write_wavetable}
use Rattle.s3w2.specs.declared.Chip.{Chip}
use Rattle.s3w2.specs.declared.Returned.TheVariants.{Done}
use Rattle.s3w2.specs.Answers.{answered}
use Rattle.s3w2.specs.Chips.{with_core_at}
use Rattle.s3w2.specs.Channels.{write_channel_wavetable_called}
use Rattle.s3w2.proofs.Refused.{away, goes-called}
use Rattle.s3w2.proofs.Cases.{none_of, one_of, one-core, at-core}
use Rattle.s3w2.proofs.Chip.write_channel_wavetable.Goals as goal

pub returns-in-Err : goal.returns-in-Err
unfolding write_channel_wavetable_called
returns-in-Err c =
    c.answers.ensures ∙ away c.refusal.result _ c.refusal.ensures _ c.in-Err.is _ _

pub returns-then-ch-gt-LAST_CHANNEL : goal.returns-then-ch-gt-LAST_CHANNEL
unfolding write_channel_wavetable_called
returns-then-ch-gt-LAST_CHANNEL c =
    let a = c.args in
    goes-called c.refusal.result _ c.refusal.ensures _ _ _ (ap is_ok c.in_default.is)
    (c.answers-then-ch-gt-LAST_CHANNEL.ensures ∙ ap (λ (x : Chip). answered x (Ok Done)) (none_of a.ch num_channels _ a.self c.if-ch-gt-LAST_CHANNEL.true))

pub returns-then-core-gt-LAST_CORE : goal.returns-then-core-gt-LAST_CORE
unfolding write_channel_wavetable_called
returns-then-core-gt-LAST_CORE c =
    let a = c.args in
    goes-called c.refusal.result _ c.refusal.ensures _ _ _ (ap is_ok c.in_default.is)
    (c.answers-then-core-gt-LAST_CORE.ensures ∙ ap (λ (x : Chip). answered x (Ok Done)) (none_of a.core num_cores _ a.self c.if-core-gt-LAST_CORE.true ∙ one_of a.ch num_channels _ a.self (omega (arith, c.if-ch-gt-LAST_CHANNEL.false))))

pub returns : goal.returns
unfolding write_channel_wavetable_called
returns c =
    let a = c.args in
    goes-called c.refusal.result _ c.refusal.ensures _ _ _ (ap is_ok c.in_default.is)
    (c.with_core.ensures ∙ ap (λ (x : Chip). answered x (Ok Done)) (one-core a.core _ a.self _ c.if-core-gt-LAST_CORE.false (ap (with_core_at a.self a.core) (c.write_wavetable.ensures ∙ ap (λ (v : Core). write_wavetable v (a.ch * 256 + a.offset) a.value) (at-core a.self a.core _ c.if-core-gt-LAST_CORE.false c.core_at-voices.ensures))) ∙ one_of a.ch num_channels _ a.self (omega (arith, c.if-ch-gt-LAST_CHANNEL.false))))
