use Rattle.stream.specs.Cache.{stock}
use Rattle.stream.proofs.Onward.{Going}
use Rattle.stream.proofs.StreamCache.onward.Given as goal

abbrev pub invariant-loop-n : goal.invariant-loop-n
invariant-loop-n l = Going l.file l.variant (stock l.initial.c l.initial.samples) (stock l.c l.samples) l.n
