use Rattle.std.specs.Prelude.{Option}
use Rattle.adpcm.specs.declared.Variant.{Variant}
use Rattle.std.proofs.Common.{◌-◌, sym, ap, ◌∙◌, le-ltb, lt-ltb, le-leb}
use borrow.Author.Tests.{not-true, not-false, lt-leb}
use Rattle.stream.specs.Accepted.{held_fits}
use Rattle.stream.proofs.Accepts.{accepts-free, accepts-by}
use Rattle.stream.proofs.StreamCache.accepts.Goals as goal

pub returns-then-not-self : goal.returns-then-not-self
returns-then-not-self c =
    let a = c.args in
    sym (accepts-free a.self a.start a.end a.length (not-true _ c.if-not-self.true))

pub returns-then-end-start : goal.returns-then-end-start
returns-then-end-start c =
    let a = c.args in
    sym (accepts-by a.self a.start a.end a.length (not-false _ c.if-not-self.false) ∙ rw (le-ltb a.start a.end c.if-end-start.true))

pub returns-then-length-end : goal.returns-then-length-end
returns-then-length-end c =
    let a = c.args in
    sym (accepts-by a.self a.start a.end a.length (not-false _ c.if-not-self.false) ∙ rw (lt-ltb a.start a.end c.if-end-start.false, lt-leb a.end a.length c.if-length-end.true))

pub returns-in_default : goal.returns-in_default
returns-in_default c =
    let a = c.args in
    sym (accepts-by a.self a.start a.end a.length (not-false _ c.if-not-self.false) ∙ rw (lt-ltb a.start a.end c.if-end-start.false, le-leb a.end a.length c.if-length-end.false) (ap (λ (h : Option Variant). held_fits h a.self (a.end - a.start)) c.in_default.is))

pub returns : goal.returns
returns c =
    let a = c.args in
    c.is_fit.ensures ∙ sym (accepts-by a.self a.start a.end a.length (not-false _ c.if-not-self.false) ∙ rw (lt-ltb a.start a.end c.if-end-start.false, le-leb a.end a.length c.if-length-end.false) (ap (λ (h : Option Variant). held_fits h a.self (a.end - a.start)) c.in-Some.is))
