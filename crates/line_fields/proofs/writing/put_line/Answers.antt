use borrow.Author.Rules.{rules}
use mathlib.Core.Path.{refl}
use Rattle.line_fields.proofs.Putting.{none-put, puts-parts, puts-end}
use Rattle.line_fields.proofs.writing.put_line.Goals as goal

pub loop-k-init : goal.loop-k-init
loop-k-init c = record { same = refl; put = none-put _ c.args.numbers.now }

pub loop-k-preserved : goal.loop-k-preserved
loop-k-preserved c = puts-parts _ _ _ _ _ c.loop-k-test.true c.loop-k.invariant c.put_part.ensures

pub returns : goal.returns
returns c = let p = puts-end _ _ _ _ _ c.loop-k-test.false c.loop-k.invariant c.put_byte.ensures in (p.put.0, search rules)
