use Rattle.std.proofs.Common.{◌≡◌}
use Rattle.s3w2_notes.specs.Lines.{LinesPut}
use Rattle.s3w2_notes.proofs.put_lines.Given as goal

abbrev pub invariant-loop-k : goal.invariant-loop-k
invariant-loop-k l = (l.out.buffer.ghost_name ≡ l.initial.out.buffer.ghost_name) × LinesPut l.fn.buffer l.out.buffer.now l.k l.out.at
