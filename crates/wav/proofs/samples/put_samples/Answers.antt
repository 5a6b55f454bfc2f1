use mathlib.Core.Path.{refl}
use borrow.Author.Rules.{rules}
use Rattle.wav.proofs.Bytes.{samples-none, samples-next}
use lib.ListN.{get_or}
use lib.IntN.{pos}
use Rattle.num.proofs.Integers.{back}
use mir.Val.{SFits}
use mir.Syntax.{w16}
use Rattle.wav.proofs.samples.put_samples.Goals as goal

pub loop-sample-init : goal.loop-sample-init
loop-sample-init c = record { same = refl; put = samples-none _ c.args.samples.now _ _ c.min-out.ensures }

pub loop-sample-preserved : goal.loop-sample-preserved
loop-sample-preserved c =
    let z : SFits w16 (get_or c.args.samples.now c.loop-sample.sample-index (pos 0)) = search rules in
    samples-next _ _ _ c.args.samples.now c.loop-sample.sample-index c.loop-sample-test.true c.loop-sample.invariant (rw (back w16 _ z) at c.put_sample.ensures)
