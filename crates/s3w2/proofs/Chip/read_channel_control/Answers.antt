use Rattle.std.specs.Prelude.{is_ok}
use Rattle.voices.specs.Reads.{after_read_channel}
use Rattle.voices.specs.Reads.{read_channel_control}
use mathlib.Core.Path.{ap, ◌∙◌}
use Rattle.voices.specs.declared.Core.{Core}
use Rattle.s3w2.specs.Channels.{read_channel_control_called}
use Rattle.s3w2.proofs.Refused.{away}
use Rattle.s3w2.proofs.Cases.{reads_none, reads, at-core}
use Rattle.s3w2.proofs.Chip.read_channel_control.Goals as goal

pub returns-in-Err : goal.returns-in-Err
unfolding read_channel_control_called
returns-in-Err c =
    c.answers.ensures ∙ away c.refusal.result _ c.refusal.ensures _ c.in-Err.is _ _

pub returns-then-core-gt-LAST_CORE : goal.returns-then-core-gt-LAST_CORE
unfolding read_channel_control_called
returns-then-core-gt-LAST_CORE c =
    let a = c.args in
    reads_none c.refusal.result _ c.refusal.ensures (ap is_ok c.in_default.is) a.core a.self _ _ _ c.if-core-gt-LAST_CORE.true c.answers-then-core-gt-LAST_CORE.ensures

pub returns : goal.returns
unfolding read_channel_control_called
returns c =
    let a = c.args in
    reads c.refusal.result _ c.refusal.ensures (ap is_ok c.in_default.is) a.core a.self _ _ _ _ _ c.if-core-gt-LAST_CORE.false c.with_core.ensures (c.after_read.ensures ∙ ap (λ (v : Core). after_read_channel v a.ch a.offset) (at-core a.self a.core _ c.if-core-gt-LAST_CORE.false c.core_at-voices.ensures)) (c.read_control-byte.ensures ∙ ap (λ (v : Core). read_channel_control a.self.version v a.ch a.offset) (at-core a.self a.core _ c.if-core-gt-LAST_CORE.false c.core_at-voices.ensures))
