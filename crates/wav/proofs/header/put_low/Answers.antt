use Rattle.wav.proofs.Bytes.{puts-low}
use Rattle.wav.proofs.header.put_low.Goals as goal

pub returns : goal.returns
returns c = puts-low _ _ _ _ _ c.requires c.to_le_bytes.ensures c.put_bytes.ensures
