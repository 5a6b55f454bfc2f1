-- What `try_from` and `ok` make of a number: the same number where it fits.
use mathlib.Core.Path.{◌≡◌, sym, subst, ◌∙◌}
use Rattle.std.specs.Prelude.{Option, Some, None, Result, Ok, Err}
use Rattle.std.specs.Result.{OkIff, result_ok}

module _ {T : Type 0} (P : Type 0) (v : T) where
  abbrev Fitting : Option T → T → Type 0
  Fitting (Some y) x = P × (y ≡ v)
  Fitting None x = Unit

  abbrev Unfit : Option T → Type 0
  Unfit (Some y) = Unit
  Unfit None = ¬ P

  fitting : {E : Type 0} (r : Result T E) (x : T) → OkIff r P v → Fitting (result_ok r) x
  fitting (Ok y) x h = h
  fitting (Err e) x h = tt

  unfit : {E : Type 0} (r : Result T E) → OkIff r P v → Unfit (result_ok r)
  unfit (Ok y) h = tt
  unfit (Err e) h = h

  pub narrow-some : {E : Type 0} (r : Result T E) {o : Option T} {x : T} → OkIff r P v → o ≡ result_ok r → o ≡ Some x → P × (x ≡ v)
  narrow-some r {o} {x} h e q = subst (λ (k : Option T). Fitting k x) (sym e ∙ q) (fitting r x h)

  pub narrow-none : {E : Type 0} (r : Result T E) {o : Option T} → OkIff r P v → o ≡ result_ok r → o ≡ None → ¬ P
  narrow-none r h e q = subst Unfit (sym e ∙ q) (unfit r h)
