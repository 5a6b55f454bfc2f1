use mathlib.Core.Path.{sym}
use Rattle.line_fields.proofs.Putting.{nothing_put, one-put, no_room, all_room}
use Rattle.line_fields.proofs.writing.fits.Goals as goal

pub loop-k-init : goal.loop-k-init
loop-k-init c = nothing_put _ c.args.numbers.now

pub returns-then-left-width : goal.returns-then-left-width
returns-then-left-width c = sym (no_room _ _ _ _ _ c.loop-k-test.true c.loop-k.invariant c.part_width-width.ensures c.if-left-width.true)

pub loop-k-preserved : goal.loop-k-preserved
loop-k-preserved c = one-put _ _ _ _ _ c.loop-k-test.true c.loop-k.invariant c.part_width-width.ensures c.if-left-width.false

pub returns : goal.returns
returns c = all_room _ _ _ _ c.loop-k-test.false c.loop-k.invariant
