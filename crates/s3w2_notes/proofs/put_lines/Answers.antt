use Rattle.std.proofs.Common.{refl, ◌∙◌}
use Rattle.s3w2_notes.proofs.Lines.{lines_none, lines_more}
use Rattle.s3w2_notes.proofs.put_lines.Goals as goal

pub loop-k-init : goal.loop-k-init
loop-k-init c = (refl, lines_none _)

pub loop-k-preserved : goal.loop-k-preserved
loop-k-preserved c = (c.put_line.ensures.put.same ∙ c.loop-k.invariant.0, lines_more _ _ _ _ c.loop-k.invariant.1 c.put_line.ensures)
