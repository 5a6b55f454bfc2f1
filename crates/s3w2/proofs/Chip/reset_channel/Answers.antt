use Rattle.std.specs.Prelude.{is_ok}
use mathlib.Core.Path.{ap, ◌∙◌}
use Rattle.voices.specs.declared.Core.{Core}
use Rattle.voices.specs.Core.{reset_channel_at}
use Rattle.s3w2.specs.Fresh.{reset_channel_called}
use Rattle.s3w2.proofs.Refused.{away}
use Rattle.s3w2.proofs.Cases.{changes-none, changes, at-core}
use Rattle.s3w2.proofs.Chip.reset_channel.Goals as goal

pub returns-in-Err : goal.returns-in-Err
unfolding reset_channel_called
returns-in-Err c =
    c.answers.ensures ∙ away c.refusal.result _ c.refusal.ensures _ c.in-Err.is _ _

pub returns-then-core-gt-LAST_CORE : goal.returns-then-core-gt-LAST_CORE
unfolding reset_channel_called
returns-then-core-gt-LAST_CORE c =
    let a = c.args in
    changes-none c.refusal.result _ c.refusal.ensures (ap is_ok c.in_default.is) a.core a.self _ _ _ c.if-core-gt-LAST_CORE.true c.answers-then-core-gt-LAST_CORE.ensures

pub returns : goal.returns
unfolding reset_channel_called
returns c =
    let a = c.args in
    changes c.refusal.result _ c.refusal.ensures (ap is_ok c.in_default.is) a.core a.self _ _ _ _ c.if-core-gt-LAST_CORE.false c.with_core.ensures (c.reset_channel.ensures ∙ ap (λ (v : Core). reset_channel_at v a.ch) (at-core a.self a.core _ c.if-core-gt-LAST_CORE.false c.core_at-voices.ensures))
