use Rattle.std.proofs.Common.{◌≡◌, ◌+◌, ◌-◌, ◌≤◌, List, length, take, drop, ℤ, ◌∙◌, arith, length-drop, length-take, rules}
use Rattle.voice.proofs.StreamTicks.{within, beyond}
use Rattle.voice.proofs.StreamSound.run_at.Goals as goal

pub returns-then-samples-lt128 : goal.returns-then-samples-lt128
returns-then-samples-lt128 c =
    let a = c.args in
    beyond a.ram.now a.p a.g.volume a.g.panpot a.self a.samples.now a.base a.n (omega (arith, c.if-samples-lt128.true))

pub returns-then-samples-base : goal.returns-then-samples-base
returns-then-samples-base c =
    let a = c.args in
    beyond a.ram.now a.p a.g.volume a.g.panpot a.self a.samples.now a.base a.n (omega (arith, c.if-samples-base.true, c.if-samples-lt128.false))

pub returns : goal.returns
returns c =
    let a = c.args in
    let l = a.samples.now in
    let ys : List ℤ = c.run.new.samples in
    let room : a.base + 128 ≤ length l = omega (arith, c.if-samples-base.false, c.if-samples-lt128.false) in
    let same : length ys ≡ length (take (a.base + 128 - a.base) (drop a.base l)) = search rules in
    let long : length (take (a.base + 128 - a.base) (drop a.base l)) ≡ 128 = simp (length-take, length-drop) (omega arith) in
    within a.ram.now a.p a.g.volume a.g.panpot a.self l a.base a.n _ ys room (same ∙ long) c.run.ensures
