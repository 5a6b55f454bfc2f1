use mathlib.Core.Path.{◌≡◌, sym, ap, ◌∙◌}
use Rattle.std.proofs.Common.{rules}
use Prim.Native.Nat.{ℕ}
use native.Mathlib.Nat as N
use native.Mathlib.Omega.{arith}
use Rattle.ticks.specs.Sounds.{ticks_of}
use Rattle.ticks.proofs.Voices.{ticks-none, rounds, all}
use Rattle.ticks.proofs.Sound.modulated.Goals as goal

pub loop-k-init : goal.loop-k-init
loop-k-init g c = λ wanted means.
    let a = c.args in
    sym (ap (λ (m : ℕ). ticks_of m wanted a.s a.own a.t a.self) (N.zero-mul c.either-each.result) ∙ ticks-none wanted a.s a.own a.t a.self)

pub loop-k-preserved : goal.loop-k-preserved
loop-k-preserved g c = λ wanted means.
    let a = c.args in
    let l = c.loop-k in
    rounds wanted a.s a.own a.n _ a.t _ a.self l.k l.v _ c.either-each.ensures (l.invariant wanted means) c.target-u.ensures
    (c.ticked-v.ensures wanted c.target-u.result (λ o r told. means o c.target-u.result r (search rules)))

pub returns : goal.returns
returns g c = λ wanted means.
    let a = c.args in
    let l = c.loop-k in
    let done : l.k ≡ c.either-rounds.result = omega arith in
    l.invariant wanted means
    ∙ ap (λ (m : ℕ). ticks_of m wanted a.s a.own a.t a.self) (all a.own a.n _ _ (done ∙ c.either-rounds.ensures) c.either-each.ensures)
