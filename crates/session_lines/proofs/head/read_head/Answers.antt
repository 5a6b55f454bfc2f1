use Rattle.session_lines.proofs.Told.{told-head}
use mathlib.Core.Path.{◌≡◌, sym, ap, ◌∙◌}
use Rattle.version.specs.declared.SguVersion.{SguVersion}
use Rattle.session_lines.specs.Head.{has_magic, behind_version, head_of, read_head}
use mathlib.Core.Bool.{true}
use mathlib.Core.List.{List}
use Prim.Native.Nat.{ℕ}
use lib.ListN.{get_or}
use Rattle.decimal.specs.Read.{natural_at, Numeral}
use Rattle.session_lines.proofs.Heads.{not_named, name-only, name-longer, read, over, within}
use Rattle.session_lines.proofs.head.read_head.Goals as goal
use Rattle.std.specs.Prelude.{Some, None, Err}
use Rattle.std.proofs.lemmas.Result.{err_from_is_err_and}
use Rattle.line_fields.specs.declared.FieldError.TheVariants.{Malformed}
use native.Mathlib.Omega.{arith}

-- the numeral behind the comma
found : (t : List ℕ) (taken : Numeral ℕ) (n next : ℕ) → has_magic t ≡ true → get_or t 4 0 ≡ 44 → taken ≡ natural_at t 5 → taken ≡ Some (n, next) → read_head t ≡ head_of t (Some (n, next))
found t taken n next e a f g = read t e a ∙ ap (head_of t) (sym f ∙ g)

pub returns-then-not-named : goal.returns-then-not-named
returns-then-not-named c =
    let e = (sym (not_named _ (sym c.named.ensures ∙ c.if-not-named.true))) in
    record { result = e; number = (told-head _ _ e).1 }

pub returns-then-ends_at : goal.returns-then-ends_at
returns-then-ends_at c =
    let e = (sym (name-only _ (sym c.named.ensures ∙ c.if-not-named.false) (λ e. c.if-byte_at-ne44.true (c.byte_at.ensures ∙ e)) (sym c.ends_at.ensures ∙ c.if-ends_at.true))) in
    record { result = e; number = (told-head _ _ e).1 }

pub returns-then-byte_at-ne44 : goal.returns-then-byte_at-ne44
returns-then-byte_at-ne44 c =
    let e = (sym (name-longer _ (sym c.named.ensures ∙ c.if-not-named.false) (λ e. c.if-byte_at-ne44.true (c.byte_at.ensures ∙ e)) (sym c.ends_at.ensures ∙ c.if-ends_at.false))) in
    record { result = e; number = (told-head _ _ e).1 }

pub returns-in_err-value : goal.returns-in_err-value
returns-in_err-value c =
    let none : c.take_natural.result ≡ None = grind arith in
    let fault : c.in_err-value.field-0.0 ≡ Malformed 2 = grind arith in
    let r = err_from_is_err_and c.from_residual.result c.from_residual.ensures.1 in
    let e = r.1 ∙ ap Err (r.2 ∙ fault) ∙ sym (read c.args.text.now (sym c.named.ensures ∙ c.if-not-named.false) (sym c.byte_at.ensures ∙ c.if-byte_at-ne44.false)
    ∙ ap (head_of c.args.text.now) (sym c.take_natural.ensures ∙ none)) in
    record { result = e; number = (told-head _ _ e).1 }

pub returns-then-value : goal.returns-then-value
returns-then-value c =
    let some : c.take_natural.result ≡ Some (c.in_ok-value.value, c.in_ok-value.next) = grind arith in
    let e = (sym (found c.args.text.now _ _ _ (sym c.named.ensures ∙ c.if-not-named.false) (sym c.byte_at.ensures ∙ c.if-byte_at-ne44.false) c.take_natural.ensures some ∙ over _ _ _ c.if-value.true)) in
    record { result = e; number = (told-head _ _ e).1 }

pub returns : goal.returns
returns c =
    let some : c.take_natural.result ≡ Some (c.in_ok-value.value, c.in_ok-value.next) = grind arith in
    let e = (let t = c.args.text.now in
    c.versioned.ensures ∙ ap (λ (v : SguVersion). behind_version t v c.in_ok-value.next) c.from.ensures ∙ sym (found c.args.text.now _ _ _ (sym c.named.ensures ∙ c.if-not-named.false) (sym c.byte_at.ensures ∙ c.if-byte_at-ne44.false) c.take_natural.ensures some ∙ within _ _ _ c.if-value.false)) in
    record { result = e; number = (told-head _ _ e).1 }
