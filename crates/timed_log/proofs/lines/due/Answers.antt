use mathlib.Core.Path.{◌≡◌, sym, ap, ◌∙◌}
use mathlib.Core.List.{List}
use Prim.Native.Nat.{ℕ, ◌+◌}
use borrow.Author.Tests.{eq-eqb, ne_eqb, le-leb, lt-leb}
use Rattle.decimal.specs.Read.{natural_at, Numeral}
use Rattle.log_lines.specs.Lines.{parsed_line}
use Rattle.timed_log.specs.Lines.{stamp_most, stamped_line, due_behind, due_of}
use Rattle.timed_log.proofs.lines.due.Goals as goal
use Rattle.std.specs.Prelude.{Option, Some, Result, Err}
use Rattle.std.specs.Option.{ok_or}
use native.Mathlib.Omega.{arith}
use lib.ListN.{drop}
use Rattle.log_lines.specs.declared.LineFault.{LineFault}
use Rattle.log_lines.specs.declared.LineFault.TheVariants.{Malformed}
use Rattle.log_lines.proofs.Narrow.{narrow-some, narrow-none}
use borrow.Author.Rules.{rules}

-- a line with a stamp
found : (text : List ℕ) (taken : Numeral ℕ) (value next : ℕ) → taken ≡ natural_at text 0 → taken ≡ Some (value, next) → due_of text ≡ due_behind text (Some (value, next))
unfolding due_of
found text taken value next e n = ap (due_behind text) (sym e ∙ n)

same-error : {A : Type 0} {f g : LineFault} → ◌≡◌ {A = Result A LineFault} (Err f) (Err g) → f ≡ g
same-error z = cc

pub returns-in_err-value : goal.returns-in_err-value
unfolding due_of
returns-in_err-value c =
    let v = c.in_err-value.ensures in
    let e : c.from_residual.result ≡ Err c.in_err-value.field-0.0 = search rules in
    e ∙ ap Err (same-error (v.value ∙ ap (λ (o : Numeral ℕ). ok_or o Malformed) v.ok_part)) ∙ sym (ap (due_behind _) (sym c.take_natural.ensures ∙ v.ok_part))

pub returns-in_err-stamp : goal.returns-in_err-stamp
returns-in_err-stamp c =
    let v = c.in_err-stamp.ensures in
    let e : c.from_residual-in_err-stamp.result ≡ Err c.in_err-stamp.field-0.0 = search rules in
    e ∙ ap Err (same-error (v.value ∙ ap (λ (o : Option ℕ). ok_or o Malformed) v.ok_part))
    ∙ sym (found c.args.text.now _ _ _ c.take_natural.ensures c.in_ok-value.ensures.ok_part ∙ rw (lt-leb c.in_ok-value.value stamp_most (omega (arith, narrow-none _ _ _ c.try_from.ensures c.ok.ensures.value v.ok_part))))

pub returns-then-byte_at-ne44 : goal.returns-then-byte_at-ne44
returns-then-byte_at-ne44 c =
    let w = narrow-some _ _ _ c.try_from.ensures c.ok.ensures.value c.in_ok-stamp.ensures.ok_part in
    sym (found c.args.text.now _ _ _ c.take_natural.ensures c.in_ok-value.ensures.ok_part ∙ rw (le-leb c.in_ok-value.value stamp_most (omega (arith, w.0)), ne_eqb _ 44 (λ q. c.if-byte_at-ne44.true (c.byte_at.ensures ∙ q))))

pub returns : goal.returns
returns c =
    let n = c.in_ok-value.next in
    let w = narrow-some _ _ _ c.try_from.ensures c.ok.ensures.value c.in_ok-stamp.ensures.ok_part in
    c.stamped.ensures ∙ ap (stamped_line _ _) (c.parse-line.ensures ∙ ap parsed_line c.tail.ensures)
    ∙ ap (λ (k : ℕ). stamped_line k (n + 1) (parsed_line (drop (n + 1) c.args.text.now))) w.1
    ∙ sym (found c.args.text.now _ _ _ c.take_natural.ensures c.in_ok-value.ensures.ok_part ∙ rw (le-leb c.in_ok-value.value stamp_most (omega (arith, w.0)), eq-eqb _ 44 (sym c.byte_at.ensures ∙ c.if-byte_at-ne44.false)))
