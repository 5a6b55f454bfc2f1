use Rattle.std.specs.Prelude.{is_ok}
use mathlib.Core.Path.{ap, ◌∙◌}
use Rattle.chip_sound.specs.Mixing.{mixed_answered, mixed_left, mixed_right, clock_mixed_called, clock_mixed_left, clock_mixed_right}
use Rattle.s3w2.proofs.Refused.{away, stays, goes-on}
use Rattle.chip_sound.proofs.Mixes.{mixed-cleared}
use Rattle.chip_sound.proofs.mixing.clock_mixed.Goals as goal

pub returns-in-Err-clause-called : goal.returns-in-Err-clause-called
unfolding clock_mixed_called clock_mixed_left clock_mixed_right mixed_answered mixed_left mixed_right
returns-in-Err-clause-called c =
    let r = c.refusal_of_sound in
    let no = ap is_ok c.in-Err.is in
    (c.answers.ensures ∙ away r.result _ r.ensures _ c.in-Err.is _ _)

pub returns-in-Err-clause-left : goal.returns-in-Err-clause-left
unfolding clock_mixed_called clock_mixed_left clock_mixed_right mixed_answered mixed_left mixed_right
returns-in-Err-clause-left c =
    let r = c.refusal_of_sound in
    let no = ap is_ok c.in-Err.is in
    (stays r.result _ r.ensures _ _ no)

pub returns-in-Err-clause-right : goal.returns-in-Err-clause-right
unfolding clock_mixed_called clock_mixed_left clock_mixed_right mixed_answered mixed_left mixed_right
returns-in-Err-clause-right c =
    let r = c.refusal_of_sound in
    let no = ap is_ok c.in-Err.is in
    (stays r.result _ r.ensures _ _ no)

pub returns-clause-called : goal.returns-clause-called
unfolding clock_mixed_called clock_mixed_left clock_mixed_right
returns-clause-called c =
    let a = c.args in
    let n = c.min-n in
    let l = c.clear in
    let r = c.clear-2 in
    let f = c.clock_mixed_into in
    let M = mixed-cleared a.chip a.ram.now a.queues.now a.left.now a.right.now n.result l.new.side r.new.side n.ensures l.ensures r.ensures in
    (f.ensures.called ∙ M.called)

pub returns-clause-left : goal.returns-clause-left
unfolding clock_mixed_called clock_mixed_left clock_mixed_right
returns-clause-left c =
    let a = c.args in
    let g = c.refusal_of_sound in
    let done = ap is_ok c.in_default.is in
    let n = c.min-n in
    let l = c.clear in
    let r = c.clear-2 in
    let f = c.clock_mixed_into in
    let M = mixed-cleared a.chip a.ram.now a.queues.now a.left.now a.right.now n.result l.new.side r.new.side n.ensures l.ensures r.ensures in
    (f.ensures.left ∙ M.on_left ∙ goes-on g.result _ g.ensures _ _ done)

pub returns-clause-right : goal.returns-clause-right
unfolding clock_mixed_called clock_mixed_left clock_mixed_right
returns-clause-right c =
    let a = c.args in
    let g = c.refusal_of_sound in
    let done = ap is_ok c.in_default.is in
    let n = c.min-n in
    let l = c.clear in
    let r = c.clear-2 in
    let f = c.clock_mixed_into in
    let M = mixed-cleared a.chip a.ram.now a.queues.now a.left.now a.right.now n.result l.new.side r.new.side n.ensures l.ensures r.ensures in
    (f.ensures.right ∙ M.on_right ∙ goes-on g.result _ g.ensures _ _ done)
