use mathlib.Core.Path.{◌≡◌, sym, ap, ◌∙◌}
use mathlib.Core.List.{List}
use Prim.Native.Nat.{ℕ}
use borrow.Author.Tests.{eq-eqb, ne_eqb, le-leb, lt-leb}
use Rattle.decimal.specs.Read.{natural_at, Numeral}
use Rattle.log_lines.specs.Lines.{one_of, one_at}
use Rattle.log_lines.proofs.parsing.one_number.Goals as goal

found : (text : List ℕ) (at most : ℕ) (taken t : Numeral ℕ) → taken ≡ natural_at text at → taken ≡ t → one_at text at most ≡ one_of text most t
unfolding one_at
found text at most taken t e f = ap (one_of text most) (sym e ∙ f)

pub returns-in_err-value-clause-result : goal.returns-in_err-value-clause-result
returns-in_err-value-clause-result c =
    let a = c.args in c.from_residual.ensures ∙ sym (found a.text.now a.at a.most _ _ c.take_natural.ensures c.in_err-value.was)

pub returns-then-next-text-clause-result : goal.returns-then-next-text-clause-result
returns-then-next-text-clause-result c =
    let a = c.args in
    sym (found a.text.now a.at a.most _ _ c.take_natural.ensures c.in_ok-value.was ∙ rw (ne_eqb _ _ c.if-next-text.true))

pub returns-then-most-value-clause-result : goal.returns-then-most-value-clause-result
returns-then-most-value-clause-result c =
    let a = c.args in
    sym
    (found a.text.now a.at a.most _ _ c.take_natural.ensures c.in_ok-value.was
    ∙ rw (eq-eqb _ _ c.if-next-text.false, lt-leb _ _ c.if-most-value.true))

pub returns-clause-result : goal.returns-clause-result
returns-clause-result c =
    let a = c.args in
    sym
    (found a.text.now a.at a.most _ _ c.take_natural.ensures c.in_ok-value.was
    ∙ rw (eq-eqb _ _ c.if-next-text.false, le-leb _ _ c.if-most-value.false))
