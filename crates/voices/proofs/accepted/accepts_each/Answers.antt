use mathlib.Core.Path.{◌≡◌, refl, sym, ap, ◌∙◌}
use Prim.Native.Nat.{ℕ}
use native.Mathlib.Omega.{arith}
use Rattle.voices.specs.Accepted.{accepts_first}
use Rattle.voices.proofs.Loops.{first_more, first-fails}
use Rattle.voices.proofs.accepted.accepts_each.Goals as goal

pub loop-c-init : goal.loop-c-init
unfolding accepts_first
loop-c-init c = refl

pub returns-then-not-accepts : goal.returns-then-not-accepts
returns-then-not-accepts c =
    let l = c.loop-c in
    let a = c.args in
    first-fails a.channels a.version a.length 8 l.c-index (sym c.accepts.ensures ∙ c.if-not-accepts.true) c.loop-c-test.true

pub loop-c-preserved : goal.loop-c-preserved
loop-c-preserved c =
    let l = c.loop-c in
    let a = c.args in
    first_more a.channels a.version a.length l.c-index l.invariant (sym c.accepts.ensures ∙ c.if-not-accepts.false)

pub returns : goal.returns
returns c =
    let l = c.loop-c in
    let a = c.args in
    let e : l.c-index ≡ 8 = omega arith in
    sym l.invariant ∙ ap (λ (m : ℕ). accepts_first m a.channels a.version a.length) e
