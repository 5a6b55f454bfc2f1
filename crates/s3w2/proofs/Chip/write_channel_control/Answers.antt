use Rattle.std.specs.Prelude.{is_ok}
use mathlib.Core.Path.{ap, ◌∙◌}
use mathlib.Core.List.{List}
use native.Mathlib.Omega.{arith}
use lib.IntN.{ℤ}
use lib.ListN.{length}
use Rattle.cores.specs.Sizes.{num_cores}
use Rattle.voices.specs.Writes.{write_channel_control, write_channel_control_queues}
use Rattle.voices.proofs.Voices.{length-queues}
use Rattle.voices.specs.declared.Core.{Core}
use Rattle.s3w2.specs.Chips.{on_queues}
use Rattle.s3w2.specs.Channels.{write_channel_control_called, write_channel_control_buffer}
use Rattle.s3w2.proofs.Refused.{away, stays, goes-on}
use Rattle.s3w2.proofs.Cases.{queues-lent, none_of, changes-none, changes, at-core}
use Rattle.s3w2.proofs.Queues.{lent-enough, put_back}
use Rattle.s3w2.proofs.Chip.write_channel_control.Goals as goal

pub returns-in-Err-clause-called : goal.returns-in-Err-clause-called
unfolding write_channel_control_called write_channel_control_buffer
returns-in-Err-clause-called c =
    (c.answers.ensures ∙ away c.refusal_with_queues.result _ c.refusal_with_queues.ensures _ c.in-Err.is _ _)

pub returns-in-Err-clause-queues : goal.returns-in-Err-clause-queues
unfolding write_channel_control_called write_channel_control_buffer
returns-in-Err-clause-queues c =
    (stays c.refusal_with_queues.result _ c.refusal_with_queues.ensures _ _ (ap is_ok c.in-Err.is))

pub returns-then-core-gt-LAST_CORE-clause-called : goal.returns-then-core-gt-LAST_CORE-clause-called
unfolding write_channel_control_called write_channel_control_buffer
returns-then-core-gt-LAST_CORE-clause-called c =
    let a = c.args in (changes-none c.refusal_with_queues.result _ c.refusal_with_queues.ensures (ap is_ok c.in_default.is) a.core a.self _ _ _ c.if-core-gt-LAST_CORE.true c.answers-then-core-gt-LAST_CORE.ensures)

pub returns-then-core-gt-LAST_CORE-clause-queues : goal.returns-then-core-gt-LAST_CORE-clause-queues
unfolding write_channel_control_called write_channel_control_buffer
returns-then-core-gt-LAST_CORE-clause-queues c =
    let a = c.args in (none_of a.core num_cores _ a.queues.now c.if-core-gt-LAST_CORE.true ∙ goes-on c.refusal_with_queues.result _ c.refusal_with_queues.ensures _ _ (ap is_ok c.in_default.is))

pub slice_bounds-write_control-end : goal.slice_bounds-write_control-end
slice_bounds-write_control-end c =
    let a = c.args in
    omega (arith, c.if-core-gt-LAST_CORE.false, queues-lent a.self (length a.queues.now) c.refusal_with_queues.result c.refusal_with_queues.ensures (ap is_ok c.in_default.is))

pub returns-clause-called : goal.returns-clause-called
unfolding write_channel_control_called write_channel_control_buffer
returns-clause-called c =
    let a = c.args in
    let h = c.if-core-gt-LAST_CORE.false in
    let n = queues-lent a.self (length a.queues.now) c.refusal_with_queues.result c.refusal_with_queues.ensures (ap is_ok c.in_default.is) in
    let k = c.core_at-voices in
    let is = at-core a.self a.core _ h k.ensures in
    let w = c.write_control-next in (changes c.refusal_with_queues.result _ c.refusal_with_queues.ensures (ap is_ok c.in_default.is) a.core a.self _ _ _ _ h c.with_core.ensures (w.ensures.result ∙ lent-enough a.queues.now a.core h n _ _ ∙ ap (λ (v : Core). write_channel_control a.self.version v a.ch a.offset a.value) is))

pub returns-clause-queues : goal.returns-clause-queues
unfolding write_channel_control_called write_channel_control_buffer
returns-clause-queues c =
    let a = c.args in
    let h = c.if-core-gt-LAST_CORE.false in
    let n = queues-lent a.self (length a.queues.now) c.refusal_with_queues.result c.refusal_with_queues.ensures (ap is_ok c.in_default.is) in
    let k = c.core_at-voices in
    let is = at-core a.self a.core _ h k.ensures in
    let w = c.write_control-next in (put_back a.queues.now a.core h n (λ (own : List ℤ). write_channel_control_queues a.self.version k.result own a.ch a.offset a.value) (λ (own : List ℤ). length-queues a.self.version k.result own a.ch a.offset a.value) w.new.queues w.ensures.queues
    ∙ ap (λ (v : Core). on_queues a.core (λ (own : List ℤ). write_channel_control_queues a.self.version v own a.ch a.offset a.value) a.queues.now) is
    ∙ goes-on c.refusal_with_queues.result _ c.refusal_with_queues.ensures _ _ (ap is_ok c.in_default.is))
