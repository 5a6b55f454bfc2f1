use Rattle.session_lines.specs.Numbers.{at, queued_samples}
use Rattle.session_lines.proofs.Storing.{Storing}
use Rattle.session_lines.proofs.reading.take_samples.Given as goal

abbrev pub invariant-loop-i : goal.invariant-loop-i
invariant-loop-i l = Storing l.initial.queue l.queue 0 (queued_samples (at l.line.numbers.now) l.count) l.i
