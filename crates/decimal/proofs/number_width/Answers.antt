use native.Mathlib.Omega.{arith}
use mir.Syntax.{w64}
use Rattle.num.proofs.Integers.{back}
use Rattle.decimal.proofs.Writing.{width-most, width-minus, width-plus}
use Rattle.num.proofs.Sizes.{is_below, not-below}
use Rattle.decimal.proofs.number_width.Goals as goal

pub overflow_add-result : goal.overflow_add-result
overflow_add-result c = omega (arith, width-most _ c.unsigned_abs.type_inv)

pub returns-then-value-lt0 : goal.returns-then-value-lt0
returns-then-value-lt0 c = width-minus _ _ _ (is_below w64 _ c.ranges.value c.if-value-lt0.true) (rw (back w64 _ c.ranges.value) at c.unsigned_abs.ensures.value) c.natural_width-width.ensures

pub returns-else-value-lt0 : goal.returns-else-value-lt0
returns-else-value-lt0 c = width-plus _ _ _ (not-below w64 _ c.ranges.value c.if-value-lt0.false) (rw (back w64 _ c.ranges.value) at c.unsigned_abs.ensures.value) c.natural_width-width.ensures
