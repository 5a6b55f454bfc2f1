use mathlib.Core.Path.{◌∙◌}
use Rattle.output.proofs.Writing.{puts-append}
use Rattle.sqv4_writer.specs.Streams.{header_bytes}
use Rattle.sqv4_writer.proofs.Packed.{low-bytes}
use Rattle.sqv4_writer.proofs.fragments.put_header.Goals as goal

pub returns : goal.returns
unfolding header_bytes
returns c =
    puts-append _ _ _ _ _ c.put_bytes.ensures
    (puts-append _ _ _ _ _ (rw c.from.ensures at c.put_bytes-2.ensures)
    (puts-append _ _ _ _ _ (rw (c.to_le_bytes.ensures ∙ low-bytes 4 c.args.rate) at c.put_bytes-3.ensures) (rw (c.to_le_bytes-2.ensures ∙ low-bytes 4 c.args.samples) at c.put_bytes-4.ensures)))
