use lib.ListN.{take}
use Rattle.output.specs.Output.{Puts}
use Rattle.line_fields.specs.Text.{parts_text}
use Rattle.line_fields.proofs.writing.put_line.Given as goal

abbrev pub invariant-loop-k : goal.invariant-loop-k
invariant-loop-k l = Puts l.initial.line l.line (parts_text 0 (take l.k l.numbers))
