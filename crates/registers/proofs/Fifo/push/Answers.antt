use borrow.Author.Tests.{lt-ltb, le-ltb}
use mathlib.Core.Path.{◌≡◌, sym, ◌∙◌}
use mathlib.Core.List.{List}
use Prim.Native.Nat.{◌+◌, ◌<◌}
use lib.Bits.{bit_and}
use lib.IntN.{ℤ}
use lib.ListN.{set}
use lib.Seq.{set_out}
use mir.Facts.{to_z-of_z}
use Rattle.sizes.specs.Sizes.{fifo_capacity}
use Rattle.registers.specs.Queue.{pushed, pushed_entries}
use Rattle.registers.specs.declared.Fifo.{Fifo}
use Rattle.registers.proofs.Ring.{ring-place}
use Rattle.registers.proofs.Fifo.push.Goals as goal
use Rattle.registers.proofs.Fifo.push.Goals.{then-at-queue, else-at-queue}

put_is : (f : Fifo) (q : List ℤ) (x : ℤ) → f.count < fifo_capacity → set q (bit_and (bit_and f.head 2047 + f.count) 2047) x ≡ pushed_entries f q x
unfolding pushed_entries
put_is f q x n = rw (lt-ltb _ _ n, ring-place f.head f.count)

pub returns-after-at-queue : goal.returns-after-at-queue
unfolding pushed
returns-after-at-queue c =
    let a = c.args in
    let n = c.if-count-lt-FIFO_CAPACITY.true in
    let place = bit_and (bit_and a.self.head 2047 + a.self.count) 2047 in (
      simp (lt-ltb _ _ n),
      elim c.if-at-queue.branch [
        | then-at-queue w ↦ w.queue-is ∙ rw (to_z-of_z c.ranges.sample) (put_is a.self a.queue.now a.sample n)
        | else-at-queue w ↦ w.queue-is ∙ sym (set_out a.queue.now place a.sample w.if-at-queue.false) ∙ put_is a.self a.queue.now a.sample n
      ],
    )

pub returns-else-count-lt-FIFO_CAPACITY : goal.returns-else-count-lt-FIFO_CAPACITY
unfolding pushed pushed_entries
returns-else-count-lt-FIFO_CAPACITY c = (simp (le-ltb _ _ c.if-count-lt-FIFO_CAPACITY.false), simp (le-ltb _ _ c.if-count-lt-FIFO_CAPACITY.false))
