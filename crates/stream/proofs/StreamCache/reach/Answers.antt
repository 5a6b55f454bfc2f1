use Rattle.std.proofs.Common.{◌≡◌, ◌-◌, true, false, sym, ◌∙◌}
use borrow.Author.Tests.{not-true, not-false}
use Rattle.stream.proofs.Reaches.{spanned, reach-past, reach-free, reach-none, reach-not, reach-is, reach-over}
use Rattle.stream.proofs.StreamCache.reach.Goals as goal

pub returns-then-frame-ge34359738368 : goal.returns-then-frame-ge34359738368
returns-then-frame-ge34359738368 c =
    let a = c.args in
    sym (reach-past a.self a.frame c.if-frame-ge34359738368.true)

pub returns-then-not-self : goal.returns-then-not-self
returns-then-not-self c =
    let a = c.args in
    sym (reach-free a.self a.frame c.if-frame-ge34359738368.false (not-true _ c.if-not-self.true))

pub returns-then-not-is_some : goal.returns-then-not-is_some
returns-then-not-is_some c =
    let a = c.args in
    sym (reach-none a.self a.frame c.if-frame-ge34359738368.false (not-false _ c.if-not-self.false) (sym c.is_some.ensures ∙ c.if-not-is_some.true))

pub returns-then-not-has : goal.returns-then-not-has
returns-then-not-has c =
    let a = c.args in
    sym (reach-not a.self a.frame c.if-frame-ge34359738368.false (not-false _ c.if-not-self.false) (sym c.is_some.ensures ∙ c.if-not-is_some.false) (sym c.has.ensures ∙ c.if-not-has.true))

pub returns-then-info-first : goal.returns-then-info-first
returns-then-info-first c =
    let a = c.args in
    sym (reach-over a.self a.frame c.if-frame-ge34359738368.false (not-false _ c.if-not-self.false) (sym c.is_some.ensures ∙ c.if-not-is_some.false) (sym c.has.ensures ∙ c.if-not-has.false) (rw c.frame_samples-per.ensures.result at c.if-info-first.true))

pub returns-then-has : goal.returns-then-has
returns-then-has c =
    let a = c.args in
    let per = c.frame_samples-per in
    let e : c.min.result - 1 ≡ spanned a.self a.frame true = rw (c.min.ensures, per.ensures.result) in
    e ∙ sym (reach-is a.self a.frame c.if-frame-ge34359738368.false (not-false _ c.if-not-self.false) (sym c.is_some.ensures ∙ c.if-not-is_some.false) (sym c.has.ensures ∙ c.if-not-has.false) true (sym c.has-2.ensures ∙ c.if-has.true))

pub returns : goal.returns
returns c =
    let a = c.args in
    let per = c.frame_samples-per in
    let e : c.min-2.result - 1 ≡ spanned a.self a.frame false = rw (c.min-2.ensures, per.ensures.result) in
    e ∙ sym (reach-is a.self a.frame c.if-frame-ge34359738368.false (not-false _ c.if-not-self.false) (sym c.is_some.ensures ∙ c.if-not-is_some.false) (sym c.has.ensures ∙ c.if-not-has.false) false (sym c.has-2.ensures ∙ c.if-has.false))
