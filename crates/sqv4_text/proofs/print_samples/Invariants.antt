use Rattle.std.proofs.Common.{◌≤◌, length}
use Rattle.sqv4_text.proofs.print_samples.Given as goal

abbrev pub invariant-loop-chunk : goal.invariant-loop-chunk
invariant-loop-chunk l = l.text.at ≤ length l.text.buffer.now
