use native.Mathlib.Omega.{arith}
use borrow.Author.Rules.{rules}
use Rattle.output.proofs.Writing.{puts-append, put-long}
use Rattle.sqv4_writer.specs.Streams.{file_of}
use Rattle.sqv4_writer.proofs.streams.write_file.Goals as goal

pub put_fragments-requires : goal.put_fragments-requires
put_fragments-requires c = let p = c.put_header.ensures.put in omega (arith, p.0, put-long _ _ _ _ _ p)

pub returns : goal.returns
unfolding file_of
returns c = let p = puts-append _ _ _ _ _ c.put_header.ensures c.put_fragments.ensures in search rules
