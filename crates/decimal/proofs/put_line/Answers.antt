use Rattle.output.proofs.Writing.{puts-append}
use Rattle.decimal.proofs.put_line.Goals as goal

pub returns : goal.returns
returns c = puts-append _ _ _ _ _ c.put_bytes.ensures (puts-append _ _ _ _ _ c.put_natural.ensures c.put_byte.ensures)
