use Rattle.std.proofs.Common.{◌≡◌, ℕ, sym, refl, ap, ◌∙◌, arith}
use Rattle.stream.specs.Window.{serves_at}
use Rattle.ticks.specs.Again.{again}
use Rattle.voice.specs.Serving.{served_ticks}
use Rattle.voice.proofs.ServedTicks.{stays, goes}
use Rattle.voice.proofs.Served.run.Goals as goal

pub loop-k-init : goal.loop-k-init
unfolding served_ticks again
loop-k-init c = (refl, omega arith)

pub returns-then-not-serves : goal.returns-then-not-serves
returns-then-not-serves c =
    let a = c.args in
    let l = c.loop-k in
    let off = ap (serves_at a.w) (sym c.whole.ensures.result) ∙ sym c.serves.ensures ∙ c.if-not-serves.true in
    stays a.w a.samples.now a.base a.p a.g.volume a.g.panpot a.self l.v l.k a.n off l.invariant.0 (omega arith)

pub loop-k-preserved : goal.loop-k-preserved
loop-k-preserved c =
    let a = c.args in
    let l = c.loop-k in
    let on = ap (serves_at a.w) (sym c.whole.ensures.result) ∙ sym c.serves.ensures ∙ c.if-not-serves.false in
    (goes a.w a.samples.now a.base a.p a.g.volume a.g.panpot a.self l.v _ l.k on l.invariant.0 c.step-v.ensures, omega arith)

pub returns : goal.returns
returns c =
    let a = c.args in
    let l = c.loop-k in
    let e : l.k ≡ a.n = omega arith in
    l.invariant.0 ∙ ap (λ (k : ℕ). served_ticks k a.w a.samples.now a.base a.p a.g.volume a.g.panpot a.self) e
