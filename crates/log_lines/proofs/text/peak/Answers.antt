use native.Mathlib.Omega.{arith}
use lib.ListN.{get_or}
use borrow.Author.Rules.{rules}
use lib.IntN.{pos}
use mir.Syntax.{w32}
use mir.Val.{SFits}
use Rattle.num.proofs.Integers.{back}
use Rattle.log_lines.proofs.Texts.{peak-none, peak-next}
use Rattle.log_lines.proofs.text.peak.Goals as goal

pub loop-value-init : goal.loop-value-init
loop-value-init c = (omega arith, peak-none _ _)

pub loop-value-preserved : goal.loop-value-preserved
loop-value-preserved c =
    let fits : SFits w32 (get_or c.args.side.now c.loop-value.value-index (pos 0)) = search rules in
    (omega arith, peak-next _ _ _ _ _ _ (rw (back w32 _ fits) at c.unsigned_abs.ensures.value) c.loop-value.invariant.1 c.max-largest.ensures)
