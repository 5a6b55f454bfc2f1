use Rattle.stream.specs.Cache.{stock}
use Rattle.stream.proofs.Onward.{start, turn}
use Rattle.stream.proofs.StreamCache.onward.Goals as goal

pub loop-n-init : goal.loop-n-init
loop-n-init c = start c.args.file.now c.args.variant (stock c.args.self c.args.samples.now)

pub loop-n-preserved : goal.loop-n-preserved
loop-n-preserved c =
    let a = c.args in
    let l = c.loop-n in
    turn a.file.now a.variant (stock a.self a.samples.now) (stock l.c l.samples) _ l.n l.invariant c.step-c.ensures.result c.step-c.ensures.samples
