use mathlib.Core.Path.{sym, ◌∙◌}
use Prim.Native.Nat.{◌<◌}
use lib.ListN.{length}
use Rattle.decimal.proofs.Reading.{digit-in, natural-none, natural-zero, natural-zeros, natural-digits}
use Rattle.decimal.proofs.take_natural.Goals as goal

inside : (c : goal.After-shared_slice_known-2-1-unread) → c.args.at < length c.args.text.now
inside c = digit-in _ _ (sym c.digit_at.ensures ∙ c.if-not-digit_at.false)

pub returns-then-not-digit_at : goal.returns-then-not-digit_at
returns-then-not-digit_at c = sym (natural-none _ _ (sym c.digit_at.ensures ∙ c.if-not-digit_at.true))

pub bounds-text-at : goal.bounds-text-at
bounds-text-at c = inside c

pub returns-then-digit_at : goal.returns-then-digit_at
returns-then-digit_at c = sym (natural-zeros _ _ c.if-text-at-eq48.true (sym c.digit_at-then-text-at-eq48.ensures ∙ c.if-digit_at.true))

pub returns-then-text-at-eq48 : goal.returns-then-text-at-eq48
returns-then-text-at-eq48 c = sym (natural-zero _ _ c.if-text-at-eq48.true (sym c.digit_at-then-text-at-eq48.ensures ∙ c.if-digit_at.false))

pub returns : goal.returns
returns c = c.take_digits.ensures ∙ sym (natural-digits _ _ (sym c.digit_at.ensures ∙ c.if-not-digit_at.false) c.if-text-at-eq48.false)
