-- What is decided of ambiguous texts, computed on the definitions; crate line_fields has the fields. Assumes nothing.
use mathlib.Core.Path.{◌≡◌, refl}
use mathlib.Core.List.{List, [], ◌∷◌}
use Prim.Native.Nat.{ℕ}
use lib.IntN.{ℤ}
use Rattle.cores.specs.Sizes.{chip_voices}
use Rattle.decimal.specs.Read.{natural_at}
use Rattle.line_fields.specs.Reading.{closed_at}
use Rattle.voice.specs.declared.Channel.{Channel}
use Rattle.session_lines.specs.Lines.{voice_text}
use Rattle.session_lines.specs.Head.{has_magic, behind_version, read_head}
use Rattle.std.specs.Prelude.{Err}
use Rattle.line_fields.specs.declared.FieldError.TheVariants.{Malformed}

-- no voice above 15 has a line
no-line : (c : Channel) (wavetable : List ℕ) (q : List ℤ) → voice_text chip_voices c wavetable q ≡ []
unfolding voice_text
no-line c wavetable q = refl

-- `S3W2,4`, byte 10 and one byte more: text behind the line, number 3
more-behind : read_head (83 ∷ 51 ∷ 87 ∷ 50 ∷ 44 ∷ 52 ∷ 10 ∷ 10 ∷ []) ≡ Err (Malformed 3)
unfolding read_head has_magic behind_version natural_at closed_at
more-behind = refl
