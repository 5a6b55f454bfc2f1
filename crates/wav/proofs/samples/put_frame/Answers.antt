use Rattle.num.proofs.Integers.{back}
use mir.Syntax.{w16}
use Rattle.output.proofs.Writing.{puts-append}
use Rattle.wav.specs.Samples.{frame_bytes}
use Rattle.wav.proofs.samples.put_frame.Goals as goal

pub returns : goal.returns
unfolding frame_bytes
returns c = puts-append _ _ _ _ _ (rw (back w16 _ c.ranges.left) at c.put_sample.ensures) (rw (back w16 _ c.ranges.right) at c.put_sample-2.ensures)
