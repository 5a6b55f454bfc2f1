use borrow.Author.Rules.{sfits_of}
use mathlib.Core.Path.{sym, ◌∙◌}
use native.Mathlib.Omega.{arith}
use mir.Syntax.{w32}
use Rattle.num.proofs.Integers.{back}
use Rattle.sides.proofs.Frames.{side-both, side-alone}
use Rattle.sides.proofs.Sums.{both_is}
use Rattle.sides.proofs.side_of.Goals as goal

pub returns-then-others-n : goal.returns-then-others-n
returns-then-others-n c =
    let a = c.args in
    let s = c.sum_of-sum in
    back w32 s.result (sfits_of s.type_inv) ∙ s.ensures.result ∙ sym (side-alone a.stems.now a.others.now a.hand a.n (omega (arith, c.if-others-n.true)))

pub returns : goal.returns
returns c =
    let a = c.args in
    let s = c.sum_of-sum in
    let o = c.sum_of in
    let j = c.joined in
    back w32 j.result (sfits_of j.type_inv)
    ∙ both_is s.result o.result (sfits_of s.type_inv) (sfits_of o.type_inv) _ _ j.result s.ensures.result o.ensures.result j.ensures
    ∙ sym (side-both a.stems.now a.others.now a.hand a.n (omega (arith, c.if-others-n.false)))
