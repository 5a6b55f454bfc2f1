use mathlib.Core.Path.{◌≡◌, refl, sym, ap, ◌∙◌, subst}
use mathlib.Core.List.{List}
use Prim.Native.Nat.{ℕ}
use native.Mathlib.Nat as N
use native.Mathlib.Omega.{arith}
use lib.IntN.{ℤ}
use Rattle.ticks.specs.Again.{again}
use Rattle.ticks.specs.Mix.{Room, Adds}
use Rattle.ticks.specs.Queues.{queue_tick, queue_ticks}
use Rattle.ticks.proofs.Again.{again-more}
use Rattle.ticks.proofs.Sums.{adds-more}
use Rattle.ticks.proofs.QueueSound.run.Goals as goal

pub loop-k-init : goal.loop-k-init
unfolding queue_ticks again
loop-k-init c = (refl, λ m l r. subst (λ (i : ℕ). Room i c.args.self.sides) (sym (N.add-zero m)) r, omega arith, refl)

pub loop-k-preserved : goal.loop-k-preserved
unfolding queue_ticks
loop-k-preserved c =
    let a = c.args in
    let l = c.loop-k in
    let s = c.step-v in
    let q = l.invariant.3 in
    let f = queue_tick a.g.frequency a.g.panpot in
    (s.ensures.result ∙ ap (λ (x : List ℤ). f x l.v) q ∙ ap (f a.queue.now) l.invariant.0 ∙ sym (again-more (f a.queue.now) a.self l.k), adds-more l.k _ _ _ l.invariant.1 s.ensures.adds, omega arith, s.ensures.queue ∙ q)

pub returns-clause-adds : goal.returns-clause-adds
returns-clause-adds c =
    let a = c.args in
    let l = c.loop-k in
    let e : l.k ≡ a.n = omega arith in
    (subst (λ (k : ℕ). Adds k a.self.sides l.v.sides) e l.invariant.1)
