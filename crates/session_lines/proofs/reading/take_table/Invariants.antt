use Rattle.session_lines.specs.Numbers.{at, table_of}
use Rattle.session_lines.proofs.Storing.{Storing}
use Rattle.session_lines.proofs.reading.take_table.Given as goal

abbrev pub invariant-loop-i : goal.invariant-loop-i
invariant-loop-i l = Storing l.initial.wavetable l.wavetable 0 (table_of (at l.line.numbers.now)) l.i
