use mathlib.Core.Path.{refl, sym, ◌∙◌}
use Prim.Native.Nat.{◌<◌}
use native.Mathlib.Omega.{arith}
use Rattle.session_lines.specs.Numbers.{at}
use Rattle.session_lines.proofs.Storing.{next, clipped, size-read-table, nth-read-table}
use Rattle.session_lines.proofs.reading.take_table.Goals as goal

pub loop-i-preserved : goal.loop-i-preserved
loop-i-preserved c =
    let f = at c.args.line.numbers.now in
    let i = c.loop-i.i in
    let h : i < 256 = omega (arith, c.loop-i-test.true, c.min-end.ensures) in
    next c.loop-i.invariant 0 _ i (omega (arith, size-read-table f)) (c.byte.ensures ∙ sym (nth-read-table f i h)) (omega arith) refl

pub returns : goal.returns
returns c = clipped c.loop-i.invariant 256 _ (size-read-table (at c.args.line.numbers.now)) c.min-end.ensures c.loop-i-test.false
