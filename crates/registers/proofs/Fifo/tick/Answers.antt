use borrow.Author.Tests.{eq-eqb, ne_eqb}
use mathlib.Core.Path.{◌≡◌, ap, ◌∙◌}
use mathlib.Core.List.{List}
use Prim.Native.Nat.{ℕ, ◌+◌, ◌%◌}
use native.Mathlib.Omega.{arith}
use lib.Bits.{bit_and, and_mask}
use lib.IntN.{ℤ}
use Rattle.registers.specs.Queue.{advanced, ticked}
use Rattle.registers.specs.declared.Fifo.{Fifo}
use Rattle.registers.proofs.Fifo.tick.Goals as goal
use Rattle.registers.proofs.Fifo.tick.Goals.{then-sub-eq0, else-sub-eq0}

turn : (n : ℕ) → bit_and (bit_and n 3 + 1) 3 ≡ (n + 1) % 4
turn n = ap (λ (x : ℕ). bit_and (x + 1) 3) (and_mask n 2) ∙ and_mask (n % 4 + 1) 2 ∙ omega arith

abbrev turned : Fifo → ℕ → Fifo
turned g n = record { head = g.head; count = g.count; held = g.held; hold = g.hold; sub = bit_and (bit_and n 3 + 1) 3; latch = g.latch }

module _ (f g : Fifo) (q : List ℤ) (frequency : ℕ) where
  first-tick : f.sub ≡ 0 → g ≡ advanced f q frequency → turned g f.sub ≡ ticked f q frequency
  unfolding ticked
  first-tick n e = ap (λ (x : Fifo). turned x f.sub) e ∙ rw (turn f.sub, eq-eqb _ _ n)

  other-tick : (f.sub ≡ 0 → ⊥) → g ≡ f → turned g f.sub ≡ ticked f q frequency
  unfolding ticked
  other-tick n e = ap (λ (x : Fifo). turned x f.sub) e ∙ rw (turn f.sub, ne_eqb _ _ n)

pub returns-clause-result : goal.returns-clause-result
returns-clause-result c =
    let a = c.args in
    elim c.if-sub-eq0.branch [
      | then-sub-eq0 w ↦ first-tick a.self c.if-sub-eq0.f a.queue.now a.frequency w.if-sub-eq0.true (w.f-is ∙ w.advance-f.ensures.result)
      | else-sub-eq0 w ↦ other-tick a.self c.if-sub-eq0.f a.queue.now a.frequency w.if-sub-eq0.false w.f-is
    ]

pub returns-clause-queue : goal.returns-clause-queue
returns-clause-queue c =
    elim c.if-sub-eq0.branch [ then-sub-eq0 w ↦ w.queue-is ∙ w.advance-f.ensures.queue | else-sub-eq0 w ↦ w.queue-is ]
