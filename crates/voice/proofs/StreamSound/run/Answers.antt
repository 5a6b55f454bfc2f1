use Rattle.std.proofs.Common.{◌≡◌, length, sym, refl, ap, ◌∙◌, arith, rules}
use Rattle.ticks.specs.Again.{again}
use Rattle.ticks.proofs.Again.{again-more}
use Rattle.voice.specs.Streaming.{lent, stream_tick, stream_ticks}
use Rattle.voice.proofs.StreamSound.run.Goals as goal

pub loop-k-init : goal.loop-k-init
unfolding stream_ticks again
loop-k-init c = (refl, refl, omega arith)

pub loop-k-preserved : goal.loop-k-preserved
unfolding stream_ticks
loop-k-preserved c =
    let a = c.args in
    let l = c.loop-k in
    let f = stream_tick a.ram.now a.p a.g.volume a.g.panpot in
    let e : length c.step-v.new.samples ≡ length l.samples = search rules in
    (c.step-v.ensures ∙ ap f l.invariant.0 ∙ sym (again-more f (lent a.self a.samples.now) l.k), e ∙ l.invariant.1, omega arith)
