use mathlib.Core.Path.{refl, sym, ◌∙◌}
use Prim.Native.Nat.{◌+◌, ◌<◌}
use native.Mathlib.Omega.{arith}
use Rattle.session_lines.proofs.Storing.{next, done, size-table, nth-table}
use Rattle.session_lines.proofs.writing.put_table.Goals as goal

pub loop-i-preserved : goal.loop-i-preserved
loop-i-preserved c =
    let w = c.args.wavetable.now in
    let i = c.loop-i.i in
    let h : i < 256 = c.loop-i-test.true in
    next c.loop-i.invariant 0 _ (25 + i) (omega (arith, size-table w)) (c.byte_at.ensures ∙ sym (nth-table w i h)) refl c.put_number.ensures

pub returns : goal.returns
returns c = done c.loop-i.invariant (omega (arith, size-table c.args.wavetable.now, c.loop-i-test.false))
