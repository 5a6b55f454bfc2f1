use mathlib.Core.Path.{refl, sym, ◌∙◌}
use Prim.Native.Nat.{◌<◌}
use native.Mathlib.Omega.{arith}
use lib.IntN.{pos}
use mir.Syntax.{w16}
use Rattle.num.proofs.Integers.{back}
use Rattle.session_lines.specs.Numbers.{at}
use Rattle.session_lines.proofs.Storing.{next, clipped, size-samples, nth-samples}
use borrow.Author.Rules.{sfits_of}
use Rattle.session_lines.proofs.reading.take_samples.Goals as goal

pub loop-i-preserved : goal.loop-i-preserved
loop-i-preserved c =
    let a = c.args in
    let f = at a.line.numbers.now in
    let i = c.loop-i.i in
    let h : i < a.count = omega (arith, c.loop-i-test.true, c.min-end.ensures) in
    next c.loop-i.invariant (pos 0) _ i (omega (arith, h, size-samples f a.count)) (back w16 _ (sfits_of c.sample.type_inv) ∙ c.sample.ensures ∙ sym (nth-samples f a.count i h)) (omega arith) refl

pub returns : goal.returns
returns c =
    let a = c.args in
    clipped c.loop-i.invariant a.count _ (size-samples (at a.line.numbers.now) a.count) c.min-end.ensures c.loop-i-test.false
