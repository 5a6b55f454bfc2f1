use Rattle.wav.specs.Samples.{samples_bytes}
use lib.ListN.{take}
use Rattle.output.specs.Output.{Puts}
use Rattle.wav.proofs.samples.put_samples.Given as goal

abbrev pub invariant-loop-sample : goal.invariant-loop-sample
invariant-loop-sample l = Puts l.fn.out l.out (samples_bytes (take l.sample-index l.samples))
