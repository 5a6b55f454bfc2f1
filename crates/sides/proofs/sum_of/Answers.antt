use borrow.Author.Rules.{sfits_of}
use mathlib.Core.Path.{refl}
use native.Mathlib.Omega.{arith}
use Rattle.sides.proofs.Sums.{sum-next, next_small}
use Rattle.sides.specs.Sides.{side_sum}
use Rattle.sides.proofs.sum_of.Goals as goal

pub loop-ch-init : goal.loop-ch-init
unfolding side_sum
loop-ch-init c = (omega arith, refl, omega arith)

pub loop-ch-preserved : goal.loop-ch-preserved
loop-ch-preserved c = (omega arith, sum-next c.args.stems.now c.args.from c.loop-ch.ch c.loop-ch.sum-bits (sfits_of c.sum-1.given) c.loop-ch-test.true c.loop-ch.invariant.2 c.loop-ch.invariant.1, next_small c.args.stems.now c.args.from c.loop-ch.ch c.loop-ch.sum-bits (sfits_of c.sum-1.given) c.loop-ch-test.true c.loop-ch.invariant.2)
