use mathlib.Core.Path.{◌≡◌, ap, ◌∙◌}
use Prim.Native.Nat.{ℕ}
use native.Mathlib.Omega.{arith}
use Rattle.std.specs.Char.{is_ascii_digit}
use Rattle.decimal.specs.Read.{digit, digit_at}
use Rattle.decimal.proofs.digit_at.Goals as goal

same : (c : ℕ) → is_ascii_digit c ≡ digit c
same c = grind arith

pub returns : goal.returns
unfolding digit_at
returns c = c.is_ascii_digit.ensures.value ∙ same c.byte_at.result ∙ ap digit c.byte_at.ensures
