use Rattle.sqv4_writer.proofs.Held.{Going}
use Rattle.sqv4_writer.proofs.packing.pack.Given as goal

abbrev pub invariant-loop-code : goal.invariant-loop-code
invariant-loop-code l = Going l.bits l.code-items 0 l.initial.bytes l.bytes l.held l.filled l.end l.code-index
