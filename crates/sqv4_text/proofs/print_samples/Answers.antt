use Rattle.sqv4_text.proofs.Texts.{puts-inside}
use Rattle.sqv4_text.proofs.print_samples.Goals as goal

pub loop-chunk-preserved : goal.loop-chunk-preserved
loop-chunk-preserved c = puts-inside _ _ _ c.put_samples.ensures
