-- A step taken n times.
use Rattle.std.specs.Prelude.{ℕ, zero, suc}

unfoldable pub again : {A : Type 0} → ℕ → (A → A) → A → A
again zero f x = x
again (suc n) f x = f (again n f x)
