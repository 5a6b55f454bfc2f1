use Rattle.wav.proofs.Bytes.{held, not-held}
use Rattle.wav.proofs.header.riff_size.Goals as goal

pub returns-then-size : goal.returns-then-size
returns-then-size c = not-held _ _ c.if-size.true

pub returns : goal.returns
returns c = held _ _ c.if-size.false
