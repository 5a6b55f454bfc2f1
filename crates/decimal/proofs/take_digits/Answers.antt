use mathlib.Core.Path.{sym, ap, ◌∙◌}
use Prim.Native.Nat.{ℕ, ◌+◌}
use Rattle.decimal.specs.Read.{spelled_at}
use native.Mathlib.Omega.{arith}
use Rattle.decimal.proofs.Reading.{digit-in, digit-least, spelled-done, spelled_step, spelled-over}
use Rattle.decimal.proofs.take_digits.Goals as goal

pub bounds-text-i : goal.bounds-text-i
bounds-text-i c = (digit-in _ _ (sym c.digit_at.ensures ∙ c.loop-d-test.true))

pub overflow_sub-d : goal.overflow_sub-d
overflow_sub-d c = digit-least _ _ (sym c.digit_at.ensures ∙ c.loop-d-test.true)

pub overflow_add-i : goal.overflow_add-i
overflow_add-i c = omega (arith, (digit-in _ _ (sym c.digit_at.ensures ∙ c.loop-d-test.true)))

pub loop-d-smaller : goal.loop-d-smaller
loop-d-smaller c = omega (arith, (digit-in _ _ (sym c.digit_at.ensures ∙ c.loop-d-test.true)))

pub returns : goal.returns
returns c = sym (c.loop-d.invariant.0 ∙ spelled-done _ _ _ (sym c.digit_at.ensures ∙ c.loop-d-test.false) c.loop-d.invariant.1)

pub loop-d-preserved : goal.loop-d-preserved
loop-d-preserved c =
    let m = c.in_ok-checked_mul.ensures in
    let a = c.in_ok-value.ensures in
    (c.loop-d.invariant.0 ∙ spelled_step _ _ _ (sym c.digit_at.ensures ∙ c.loop-d-test.true) ∙ ap (λ (v : ℕ). spelled_at v c.args.text.now (c.loop-d.i + 1)) (omega arith), omega arith)

pub returns-in_err-value : goal.returns-in_err-value
returns-in_err-value c =
    let m = c.in_ok-checked_mul.ensures in
    let a = c.in_err-value.ensures in
    c.from_residual-in_err-value.ensures ∙ sym (c.loop-d.invariant.0 ∙ spelled_step _ _ _ (sym c.digit_at.ensures ∙ c.loop-d-test.true) ∙ spelled-over _ _ _ (omega arith))

pub returns-in_err-checked_mul : goal.returns-in_err-checked_mul
returns-in_err-checked_mul c =
    let m = c.in_err-checked_mul.ensures in
    c.from_residual.ensures ∙ sym (c.loop-d.invariant.0 ∙ spelled_step _ _ _ (sym c.digit_at.ensures ∙ c.loop-d-test.true) ∙ spelled-over _ _ _ (omega arith))
