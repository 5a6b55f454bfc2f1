use Rattle.std.specs.Prelude.{Result, Err}
use Rattle.std.proofs.lemmas.Result.{err_from_is_err_and}
use Prim.Native.Nat.{ℕ, ◌≤◌}
use mathlib.Core.Bool.{true, false, cond}
use mathlib.Core.List.{List}
use lib.Dec.{ltb}
use lib.ListN.{get_or, length}
use Rattle.adpcm.specs.Codes.{variant_of}
use Rattle.sqv4.specs.Files.{by_variant}
use mathlib.Core.Path.{◌≡◌, sym, ap, ◌∙◌}
use borrow.Author.Tests.{lt-ltb, le-ltb}
use Rattle.sqv4.specs.Files.{magic, inspected}
use Rattle.sqv4.proofs.Checks.{numbered}
use Rattle.adpcm.specs.declared.Variant.{Variant}
use Rattle.adpcm.specs.declared.UnknownVariant.{UnknownVariant}
use Rattle.sqv4.proofs.check.inspect.Goals as goal

-- past the tests of length, name and version
past : (d : List ℕ) (named : Result Variant UnknownVariant) → 16 ≤ length d → magic d ≡ true → cond (ltb 0 (get_or d 4 0)) (ltb (get_or d 4 0) 4) false ≡ true → named ≡ variant_of (get_or d 5 0) → inspected d ≡ by_variant d named
unfolding inspected
past d named l m v e = rw (le-ltb _ 16 l, m, v) (ap (by_variant d) (sym e))

pub returns-then-file-lt16-clause-result : goal.returns-then-file-lt16-clause-result
unfolding inspected
returns-then-file-lt16-clause-result c = rw (lt-ltb _ 16 c.if-file-lt16.true)

pub returns-then-file-lt16-clause-result_value : goal.returns-then-file-lt16-clause-result_value
unfolding inspected
returns-then-file-lt16-clause-result_value c = rw (lt-ltb _ 16 c.if-file-lt16.true)

pub returns-in_err-variant : goal.returns-in_err-variant
returns-in_err-variant c =
    let d = c.args.file.now in
    let p = err_from_is_err_and c.from_residual.result c.from_residual.ensures.1 in
    let e = past d _ c.if-file-lt16.false (sym c.has_magic.ensures ∙ c.if-has_magic.true) (sym c.known_version.ensures ∙ c.if-known_version.true) c.in_err-variant.ensures in
    let n = numbered (p.1 ∙ ap Err p.2 ∙ sym e) in
    record { result = n.0; result_value = n.1 }

pub returns-then-known_version : goal.returns-then-known_version
returns-then-known_version c =
    let d = c.args.file.now in
    let e = past d _ c.if-file-lt16.false (sym c.has_magic.ensures ∙ c.if-has_magic.true) (sym c.known_version.ensures ∙ c.if-known_version.true) c.in_ok-variant.ensures in
    let n = numbered (c.check_named.ensures ∙ sym e) in
    record { result = n.0; result_value = n.1 }

pub returns-then-has_magic-clause-result : goal.returns-then-has_magic-clause-result
unfolding inspected
returns-then-has_magic-clause-result c =
    rw (le-ltb _ 16 c.if-file-lt16.false, sym c.has_magic.ensures ∙ c.if-has_magic.true, sym c.known_version.ensures ∙ c.if-known_version.false)

pub returns-then-has_magic-clause-result_value : goal.returns-then-has_magic-clause-result_value
unfolding inspected
returns-then-has_magic-clause-result_value c =
    rw (le-ltb _ 16 c.if-file-lt16.false, sym c.has_magic.ensures ∙ c.if-has_magic.true, sym c.known_version.ensures ∙ c.if-known_version.false)

pub returns-clause-result : goal.returns-clause-result
unfolding inspected
returns-clause-result c = rw (le-ltb _ 16 c.if-file-lt16.false, sym c.has_magic.ensures ∙ c.if-has_magic.false)

pub returns-clause-result_value : goal.returns-clause-result_value
unfolding inspected
returns-clause-result_value c = rw (le-ltb _ 16 c.if-file-lt16.false, sym c.has_magic.ensures ∙ c.if-has_magic.false)
