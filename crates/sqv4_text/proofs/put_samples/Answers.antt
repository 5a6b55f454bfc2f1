use Rattle.std.proofs.Common.{refl, get_or, pos, w16, w64, SFits, rules}
use Rattle.num.proofs.Fit.{widen16-64}
use Rattle.num.proofs.Integers.{back}
use Rattle.sqv4_text.proofs.Texts.{lines_none, lines_next}
use Rattle.sqv4_text.proofs.put_samples.Goals as goal

pub loop-sample-init : goal.loop-sample-init
loop-sample-init c = record { same = refl; put = lines_none _ c.args.samples.now _ _ c.min-out.ensures }

pub loop-sample-preserved : goal.loop-sample-preserved
loop-sample-preserved c =
    let l = c.loop-sample in
    let fits : SFits w16 (get_or c.args.samples.now l.sample-index (pos 0)) = search rules in
    lines_next _ _ _ _ c.args.samples.now l.sample-index c.loop-sample-test.true l.invariant (rw (back w16 _ fits, back w64 _ (widen16-64 fits)) at c.put_number.ensures) c.put_byte.ensures
