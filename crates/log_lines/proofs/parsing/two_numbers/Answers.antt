use mathlib.Core.Path.{◌≡◌, sym, ap, ◌∙◌}
use mathlib.Core.List.{List}
use Prim.Native.Nat.{ℕ, ◌+◌, ◌≤◌}
use lib.ListN.{get_or}
use borrow.Author.Tests.{eq-eqb, ne_eqb, le-leb, lt-leb}
use Rattle.decimal.specs.Read.{natural_at, Numeral}
use Rattle.log_lines.specs.Lines.{one_at, address_and, two_of, two_at}
use native.Mathlib.Omega.{arith}
use Rattle.log_lines.proofs.Narrow.{narrow-some, narrow-none}
use Rattle.log_lines.proofs.parsing.two_numbers.Goals as goal
use Rattle.std.specs.Prelude.{Some}

found : (text : List ℕ) (at : ℕ) (taken t : Numeral ℕ) → taken ≡ natural_at text at → taken ≡ t → two_at text at ≡ two_of text t
unfolding two_at
found text at taken t e f = ap (two_of text) (sym e ∙ f)

-- past the address and the comma
parted : (text : List ℕ) (a next : ℕ) → a ≤ 4294967295 → get_or text next 0 ≡ 44
    → two_of text (Some (a, next)) ≡ address_and a (one_at text (next + 1) 255)
parted text a next h e = rw (le-leb a 4294967295 h, eq-eqb (get_or text next 0) 44 e)

pub returns-in_err-value : goal.returns-in_err-value
returns-in_err-value c = let a = c.args in c.from_residual.ensures ∙ sym (found a.text.now a.at _ _ c.take_natural.ensures c.in_err-value.was)

pub returns-in_err-address : goal.returns-in_err-address
returns-in_err-address c =
    let a = c.args in
    c.from_residual-in_err-address.ensures
    ∙ sym
    (found a.text.now a.at _ _ c.take_natural.ensures c.in_ok-value.was
    ∙ rw (lt-leb c.in_ok-value.value 4294967295 (omega (arith, narrow-none _ _ _ c.try_from.ensures c.ok.ensures.value c.in_err-address.was))))

pub returns-then-byte_at-ne44 : goal.returns-then-byte_at-ne44
returns-then-byte_at-ne44 c =
    let a = c.args in
    sym
    (found a.text.now a.at _ _ c.take_natural.ensures c.in_ok-value.was
    ∙ rw (le-leb c.in_ok-value.value 4294967295 (omega (arith, (narrow-some _ _ _ c.try_from.ensures c.ok.ensures.value c.in_ok-address.was).0)), ne_eqb _ 44 (λ q. c.if-byte_at-ne44.true (c.byte_at.ensures ∙ q))))

pub returns-in_err-byte : goal.returns-in_err-byte
returns-in_err-byte c =
    let a = c.args in
    let n = c.in_ok-value in
    c.from_residual-in_err-byte.ensures
    ∙ sym
    (found a.text.now a.at _ _ c.take_natural.ensures n.was
    ∙ parted a.text.now n.value n.next (omega (arith, (narrow-some _ _ _ c.try_from.ensures c.ok.ensures.value c.in_ok-address.was).0)) (sym c.byte_at.ensures ∙ c.if-byte_at-ne44.false)
    ∙ ap (address_and n.value) (sym c.one_number.ensures.result ∙ c.in_err-byte.was))

pub returns : goal.returns
returns c =
    let a = c.args in
    let n = c.in_ok-value in
    let w = narrow-some _ _ _ c.try_from.ensures c.ok.ensures.value c.in_ok-address.was in
    sym
    (found a.text.now a.at _ _ c.take_natural.ensures n.was
    ∙ parted a.text.now n.value n.next (omega (arith, w.0)) (sym c.byte_at.ensures ∙ c.if-byte_at-ne44.false)
    ∙ ap (address_and n.value) (sym c.one_number.ensures.result ∙ c.in_ok-byte.was)
    ∙ ap (λ (x : ℕ). Some (x, c.in_ok-byte.byte)) (sym w.1))
