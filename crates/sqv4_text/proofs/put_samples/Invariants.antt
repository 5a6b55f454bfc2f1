use Rattle.std.proofs.Common.{take}
use Rattle.output.specs.Output.{Puts}
use Rattle.sqv4_text.specs.Lines.{lines}
use Rattle.sqv4_text.proofs.put_samples.Given as goal

abbrev pub invariant-loop-sample : goal.invariant-loop-sample
invariant-loop-sample l = Puts l.fn.out l.out (lines (take l.sample-index l.samples))
