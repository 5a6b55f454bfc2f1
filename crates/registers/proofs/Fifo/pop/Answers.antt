use borrow.Author.Rules.{sfits_of}
use borrow.Author.Tests.{eq-eqb, ne_eqb}
use mathlib.Core.Path.{◌≡◌, sym, ◌∙◌}
use mathlib.Core.List.{List}
use Prim.Native.Nat.{ℕ, ◌+◌, ◌-◌}
use lib.Bits.{bit_and, and_mask}
use lib.IntN.{ℤ, pos}
use lib.ListN.{get_or, get_or-eq_default}
use mir.Syntax.{w16}
use mir.Facts.{to_z-of_z}
use Rattle.registers.specs.Queue.{popped}
use Rattle.registers.specs.declared.Fifo.{Fifo}
use Rattle.registers.proofs.Ring.{ring-place}
use Rattle.registers.proofs.Fifo.pop.Goals as goal
use Rattle.registers.proofs.Fifo.pop.Goals.{then-head-queue, else-head-queue}

take-is : (f : Fifo) (q : List ℤ) (frequency : ℕ) (x : ℤ) → (f.count ≡ 0 → ⊥) → x ≡ get_or q (bit_and f.head 2047) (pos 0)
    → ◌≡◌ {A = Fifo} (record { head = bit_and (bit_and f.head 2047 + 1) 2047; count = f.count - 1; held = x; hold = frequency; sub = f.sub; latch = f.latch }) (popped f q frequency)
unfolding popped
take-is f q frequency x n e = rw (ne_eqb _ _ n, ring-place f.head 1, e, and_mask f.head 11)

pub returns-then-count-eq0-clause-result : goal.returns-then-count-eq0-clause-result
unfolding popped
returns-then-count-eq0-clause-result c = (simp (eq-eqb _ _ c.if-count-eq0.true))

pub returns-clause-result : goal.returns-clause-result
returns-clause-result c =
    let a = c.args in
    take-is a.self a.queue.now a.frequency _ c.if-count-eq0.false
    (elim c.if-head-queue.branch [
      | then-head-queue w ↦ w.sample-is ∙ to_z-of_z {w = w16} {z = get_or a.queue.now (bit_and a.self.head 2047) (pos 0)} (sfits_of w.sample-1.given)
      | else-head-queue w ↦ w.sample-is ∙ sym (get_or-eq_default a.queue.now (pos 0) w.if-head-queue.false)
    ])
