-- Tests one after another: the first that fails decides. Assumes nothing.
use Rattle.std.proofs.Common.{◌≡◌, Bool, true, false, cond, ◌&&◌, sym, ap, ◌∙◌}

pub fails : (a rest : Bool) → a ≡ false → false ≡ (a && rest)
fails a rest h = sym (ap (λ (x : Bool). x && rest) h)

pub passes : (a rest : Bool) {r : Bool} → a ≡ true → r ≡ rest → r ≡ (a && rest)
passes a rest h e = e ∙ sym (ap (λ (x : Bool). x && rest) h)

-- the arm that a test chooses
pub first-arm : {A : Type 0} (t : Bool) (x y : A) → t ≡ true → x ≡ cond t x y
first-arm t x y h = sym (ap (λ (b : Bool). cond b x y) h)

pub second-arm : {A : Type 0} (t : Bool) (x y : A) → t ≡ false → y ≡ cond t x y
second-arm t x y h = sym (ap (λ (b : Bool). cond b x y) h)
