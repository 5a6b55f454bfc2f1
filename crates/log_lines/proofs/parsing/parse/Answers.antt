use Rattle.std.specs.Prelude.{Option, Some, None, Result, Ok, Err}
use Rattle.std.specs.Option.{ok_or}
use Rattle.std.specs.Result.{IsErrAnd}
use Rattle.std.proofs.lemmas.Result.{err_from_is_err_and}
use native.Mathlib.Omega.{arith}
use Rattle.log_lines.specs.declared.Line.{Line}
use Rattle.log_lines.specs.declared.Line.TheVariants.{WriteRam}
use Rattle.log_lines.specs.declared.LineFault.{LineFault}
use Rattle.log_lines.specs.declared.LineFault.TheVariants.{Malformed}
use mathlib.Core.Path.{◌≡◌, refl, sym, ap, ◌∙◌}
use mathlib.Core.List.{List}
use Prim.Native.Nat.{ℕ}
use lib.ListN.{get_or}
use borrow.Author.Tests.{eq-eqb, ne_eqb}
use borrow.Author.Rules.{rules}
use Rattle.log_lines.specs.Lines.{addressed, as_write, written_ram, read_of, peek_of, clock_of, as_version, by_kind, parsed_line}
use Rattle.log_lines.proofs.parsing.parse.Goals as goal

-- a line of a kind
named : (text : List ℕ) (comma kind k : ℕ) → comma ≡ get_or text 1 0 → comma ≡ 44 → kind ≡ get_or text 0 0 → kind ≡ k
    → parsed_line text ≡ by_kind text k
unfolding parsed_line
named text comma kind k e f g h = rw (eq-eqb (get_or text 1 0) 44 (sym e ∙ f)) (ap (by_kind text) (sym g ∙ h))

-- an address in RAM
ram-there : (a v : ℕ) → Ok (WriteRam a v) ≡ written_ram (Some (a, v))
unfolding addressed
ram-there a v = refl

-- one whose numbers are not read, and one whose numbers are
module _ {A : Type 0} (f : Option A → Result Line LineFault) (o p : Option A) (q : o ≡ p) where
  refused : (e : LineFault) (r : Result Line LineFault) → f None ≡ Err Malformed → ok_or o Malformed ≡ Err e → IsErrAnd r (λ x. x ≡ e) → r ≡ f p
  refused e r n w k = let u = err_from_is_err_and r k in u.1 ∙ ap (λ (x : LineFault). Err x) u.2 ∙ none o w ∙ sym n ∙ empty o w ∙ ap f q
    where
      none : (o : Option A) → ok_or o Malformed ≡ Err e → ◌≡◌ {A = Result Line LineFault} (Err e) (Err Malformed)
      none (Some x) w = cc
      none None w = cc

      empty : (o : Option A) → ok_or o Malformed ≡ Err e → f None ≡ f o
      empty (Some x) w = cc
      empty None w = refl

  taken : (x : A) → ok_or o Malformed ≡ Ok x → f (Some x) ≡ f p
  taken x w = full o w ∙ ap f q
    where
      full : (o : Option A) → ok_or o Malformed ≡ Ok x → f (Some x) ≡ f o
      full (Some y) w = let e : y ≡ x = cc in ap (λ z. f (Some z)) (sym e)
      full None w = cc

pub returns-then-byte_at-ne44 : goal.returns-then-byte_at-ne44
unfolding parsed_line
returns-then-byte_at-ne44 c = rw (ne_eqb _ 44 (λ q. c.if-byte_at-ne44.true (c.byte_at.ensures ∙ q)))

pub returns-in-67 : goal.returns-in-67
returns-in-67 c =
    c.clock_of.ensures ∙ ap clock_of c.one_number-in-67.ensures.result
    ∙ sym (named _ _ _ 67 c.byte_at.ensures c.if-byte_at-ne44.false c.byte_at-2.ensures c.in-67.is)

pub returns-in_default : goal.returns-in_default
unfolding parsed_line
returns-in_default c = search rules

pub returns-in_err-address-in-87 : goal.returns-in_err-address-in-87
returns-in_err-address-in-87 c =
    refused as_write _ _ c.two_numbers.ensures _ _ refl (sym c.ok_or.ensures.value ∙ c.in_err-address-in-87.was) c.from_residual.ensures.1
    ∙ sym (named _ _ _ 87 c.byte_at.ensures c.if-byte_at-ne44.false c.byte_at-2.ensures c.in-87.is)

pub returns-in_ok-address-in-87 : goal.returns-in_ok-address-in-87
returns-in_ok-address-in-87 c =
    c.mapped.ensures 87 (λ e. omega arith) ∙ taken as_write _ _ c.two_numbers.ensures _ (sym c.ok_or.ensures.value ∙ c.in_ok-address-in-87.was)
    ∙ sym (named _ _ _ 87 c.byte_at.ensures c.if-byte_at-ne44.false c.byte_at-2.ensures c.in-87.is)

pub returns-in_err-address-in-77 : goal.returns-in_err-address-in-77
returns-in_err-address-in-77 c =
    refused written_ram _ _ c.two_numbers-in-77.ensures _ _ refl (sym c.ok_or-in-77.ensures.value ∙ c.in_err-address-in-77.was) c.from_residual-in_err-address-in-77.ensures.1
    ∙ sym (named _ _ _ 77 c.byte_at.ensures c.if-byte_at-ne44.false c.byte_at-2.ensures c.in-77.is)

pub returns-in_ok-address-in-77 : goal.returns-in_ok-address-in-77
returns-in_ok-address-in-77 c =
    ram-there _ _ ∙ taken written_ram _ _ c.two_numbers-in-77.ensures _ (sym c.ok_or-in-77.ensures.value ∙ c.in_ok-address-in-77.was)
    ∙ sym (named _ _ _ 77 c.byte_at.ensures c.if-byte_at-ne44.false c.byte_at-2.ensures c.in-77.is)

pub returns-in_err-address-in-82 : goal.returns-in_err-address-in-82
returns-in_err-address-in-82 c =
    refused read_of _ _ c.one_number.ensures.result _ _ refl (sym c.ok_or-in-82.ensures.value ∙ c.in_err-address-in-82.was) c.from_residual-in_err-address-in-82.ensures.1
    ∙ sym (named _ _ _ 82 c.byte_at.ensures c.if-byte_at-ne44.false c.byte_at-2.ensures c.in-82.is)

pub returns-in_ok-address-in-82 : goal.returns-in_ok-address-in-82
returns-in_ok-address-in-82 c =
    c.mapped-in-82.ensures 82 (λ e. omega arith) ∙ taken read_of _ _ c.one_number.ensures.result _ (sym c.ok_or-in-82.ensures.value ∙ c.in_ok-address-in-82.was)
    ∙ sym (named _ _ _ 82 c.byte_at.ensures c.if-byte_at-ne44.false c.byte_at-2.ensures c.in-82.is)

pub returns-in_err-address-in-80 : goal.returns-in_err-address-in-80
returns-in_err-address-in-80 c =
    refused peek_of _ _ c.one_number-in-80.ensures.result _ _ refl (sym c.ok_or-in-80.ensures.value ∙ c.in_err-address-in-80.was) c.from_residual-in_err-address-in-80.ensures.1
    ∙ sym (named _ _ _ 80 c.byte_at.ensures c.if-byte_at-ne44.false c.byte_at-2.ensures c.in-80.is)

pub returns-in_ok-address-in-80 : goal.returns-in_ok-address-in-80
returns-in_ok-address-in-80 c =
    c.mapped-in-80.ensures 80 (λ e. omega arith) ∙ taken peek_of _ _ c.one_number-in-80.ensures.result _ (sym c.ok_or-in-80.ensures.value ∙ c.in_ok-address-in-80.was)
    ∙ sym (named _ _ _ 80 c.byte_at.ensures c.if-byte_at-ne44.false c.byte_at-2.ensures c.in-80.is)

pub returns-in_err-version-in-86 : goal.returns-in_err-version-in-86
returns-in_err-version-in-86 c =
    refused as_version _ _ c.one_number-in-86.ensures.result _ _ refl (sym c.ok_or-in-86.ensures.value ∙ c.in_err-version-in-86.was) c.from_residual-in_err-version-in-86.ensures.1
    ∙ sym (named _ _ _ 86 c.byte_at.ensures c.if-byte_at-ne44.false c.byte_at-2.ensures c.in-86.is)

pub returns-in_ok-version-in-86 : goal.returns-in_ok-version-in-86
returns-in_ok-version-in-86 c =
    taken as_version _ _ c.one_number-in-86.ensures.result _ (sym c.ok_or-in-86.ensures.value ∙ c.in_ok-version-in-86.was)
    ∙ sym (named _ _ _ 86 c.byte_at.ensures c.if-byte_at-ne44.false c.byte_at-2.ensures c.in-86.is)
