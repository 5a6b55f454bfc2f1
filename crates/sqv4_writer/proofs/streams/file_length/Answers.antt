use Rattle.sqv4_writer.specs.Streams.{length_for}
use Rattle.sqv4_writer.proofs.streams.file_length.Goals as goal

pub returns : goal.returns
unfolding length_for
returns c = rw (c.fragment_count.ensures.result, c.fragment_size.ensures)
