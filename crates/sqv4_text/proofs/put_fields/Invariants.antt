use Rattle.std.proofs.Common.{take}
use Rattle.output.specs.Output.{Puts}
use Rattle.sqv4_text.specs.Lines.{fields}
use Rattle.sqv4_text.proofs.put_fields.Given as goal

abbrev pub invariant-loop-value : goal.invariant-loop-value
invariant-loop-value l = Puts l.fn.out l.out (fields (take l.value-index l.values))
