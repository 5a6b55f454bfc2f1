use mathlib.Core.Path.{◌≡◌, refl, sym, ap, ◌∙◌}
use Prim.Native.Nat.{◌+◌, ◌<◌, ◌%◌}
use native.Mathlib.Omega.{arith}
use mir.Syntax.{w16}
use mir.Val.{of_z}
use Rattle.sizes.specs.Sizes.{fifo_capacity}
use Rattle.num.proofs.Integers.{back}
use Rattle.session_lines.proofs.Storing.{next, done, size-queue, nth-queue, queue-put}
use borrow.Author.Rules.{sfits_of}
use Rattle.session_lines.proofs.writing.put_queue.Goals as goal

pub loop-i-preserved : goal.loop-i-preserved
loop-i-preserved c =
    let l = c.loop-i in
    let q = c.args.queue.now in
    let head = c.args.f.head % fifo_capacity in
    let count = c.min-count.result in
    let h : l.i < count = c.loop-i-test.true in
    let bits : c.bits16.result ≡ of_z w16 c.entry-sample.result = rw (back w16 _ (sfits_of c.entry-sample.type_inv)) at c.bits16.ensures in (
      omega (arith, h),
      l.invariant.1,
      l.invariant.2,
      next l.invariant.3 0 _ (282 + l.i) (omega (arith, h, size-queue q head count)) (bits ∙ ap (of_z w16) c.entry-sample.ensures ∙ sym (nth-queue q head count l.i h)) refl c.put_number-in-loop-i.ensures,
    )

pub returns-clause-numbers : goal.returns-clause-numbers
returns-clause-numbers c =
    let a = c.args in
    let count = c.min-count.result in (queue-put a.f a.queue.now a.numbers.now _ _ count c.min-count.ensures c.put_number.ensures
    (done c.loop-i.invariant.3 (omega (arith, size-queue a.queue.now (a.f.head % fifo_capacity) count, c.loop-i-test.false))))
