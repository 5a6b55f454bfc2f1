use mathlib.Core.Path.{sym}
use mathlib.Core.Bool.{false}
use Rattle.ticks.proofs.Voices.{ticks-none, turn}
use Rattle.ticks.proofs.Sound.ticked.Goals as goal

pub loop-k-init : goal.loop-k-init
loop-k-init g c = λ wanted t means. sym (ticks-none wanted c.args.s false t c.args.self)

pub loop-k-preserved : goal.loop-k-preserved
loop-k-preserved g c = λ wanted t means.
    turn wanted c.args.s t c.args.self c.loop-k.k c.loop-k.v _ _ (c.loop-k.invariant wanted t means) (means _ _ c.tick.ensures) c.after-v.ensures
