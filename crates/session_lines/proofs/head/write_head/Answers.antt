use borrow.Author.Rules.{rules}
use Rattle.line_fields.proofs.Numbers.{told-room}
use native.Mathlib.Omega.{arith}
use Rattle.decimal.proofs.Writing.{width-most}
use Rattle.session_lines.proofs.Heads.{head-puts, head-yes, head-no}
use Rattle.session_lines.proofs.head.write_head.Goals as goal

pub overflow_add-width : goal.overflow_add-width
overflow_add-width c = let w = c.natural_width-width.ensures in omega (arith, w, width-most c.args.size c.ranges.size.fits)

pub returns-then-out-width : goal.returns-then-out-width
returns-then-out-width c =
    let p = (head-no c.args.out.now _ _ _ c.natural_width-width.ensures c.if-out-width.true) in
    record { result = p.0; out = p.1; number = (told-room _ _ _ p).1.1 }

pub returns : goal.returns
returns c =
    let a = c.args in
    let t = head-puts _ _ _ _ _ _ _ a.version a.size c.from-number.ensures c.put_bytes.ensures c.put_byte.ensures c.put_byte-2.ensures c.put_natural.ensures c.put_byte-3.ensures in
    let p = head-yes a.out.now a.version a.size _ c.natural_width-width.ensures _ _ c.if-out-width.false t.put in
    record { result = p.0; out = search rules; number = (told-room _ _ _ p).1.1 }
