use Rattle.session_lines.specs.Numbers.{table_numbers}
use Rattle.session_lines.proofs.Storing.{Storing}
use Rattle.session_lines.proofs.writing.put_table.Given as goal

abbrev pub invariant-loop-i : goal.invariant-loop-i
invariant-loop-i l = Storing l.initial.numbers l.numbers 25 (table_numbers l.wavetable) l.i
