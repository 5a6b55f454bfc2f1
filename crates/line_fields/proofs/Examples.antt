-- What is decided of ambiguous fields, computed on the definitions. Assumes nothing.
use mathlib.Core.Path.{◌≡◌, refl}
use mathlib.Core.Bool.{Bool, true}
use mathlib.Core.List.{[], ◌∷◌}
use Rattle.decimal.specs.Read.{natural_at, number_at}
use Rattle.line_fields.specs.Table.{is_sample, most_of}
use Rattle.line_fields.specs.Reading.{field_at, part_at, ends_at}
use Rattle.std.specs.Prelude.{Ok, Err}
use Rattle.line_fields.specs.declared.FieldError.TheVariants.{Malformed}

-- `3x,` read as field 0 is 3; behind it stands no comma and the line does not end, so field 0 is malformed: number 1
three-x : part_at true 1 (51 ∷ 120 ∷ 44 ∷ []) 1 ≡ Err (Malformed 1)
unfolding part_at ends_at
three-x = refl

-- `3` and the end of the text: field 1 is missing, number 2
missing : part_at true 1 (51 ∷ []) 1 ≡ Err (Malformed 2)
unfolding part_at ends_at
missing = refl

-- `15` names a voice in every version, `16` in none: number 1
last-voice : (fifo : Bool) → field_at fifo 0 (49 ∷ 53 ∷ 44 ∷ []) 0 ≡ Ok (15, 2)
unfolding field_at is_sample most_of natural_at
last-voice fifo = refl

past-voices : (fifo : Bool) → field_at fifo 0 (49 ∷ 54 ∷ 44 ∷ []) 0 ≡ Err (Malformed 1)
unfolding field_at is_sample most_of natural_at
past-voices fifo = refl

-- `-0`, of field 0 and of a sample (field 19, its number 20)
minus-zero : field_at true 0 (45 ∷ 48 ∷ 44 ∷ []) 0 ≡ Err (Malformed 1)
unfolding field_at is_sample most_of natural_at
minus-zero = refl

minus-zero-sample : field_at true 19 (45 ∷ 48 ∷ 44 ∷ []) 0 ≡ Err (Malformed 20)
unfolding field_at is_sample number_at natural_at
minus-zero-sample = refl

-- 2^64 in the field of the phase (field 16, its number 17), which takes every number below
past-64 : field_at true 16 (49 ∷ 56 ∷ 52 ∷ 52 ∷ 54 ∷ 55 ∷ 52 ∷ 52 ∷ 48 ∷ 55 ∷ 51 ∷ 55 ∷ 48 ∷ 57 ∷ 53 ∷ 53 ∷ 49 ∷ 54 ∷ 49 ∷ 54 ∷ 44 ∷ []) 0 ≡ Err (Malformed 17)
unfolding field_at is_sample most_of natural_at
past-64 = refl

most-64 : field_at true 16 (49 ∷ 56 ∷ 52 ∷ 52 ∷ 54 ∷ 55 ∷ 52 ∷ 52 ∷ 48 ∷ 55 ∷ 51 ∷ 55 ∷ 48 ∷ 57 ∷ 53 ∷ 53 ∷ 49 ∷ 54 ∷ 49 ∷ 53 ∷ 44 ∷ []) 0 ≡ Ok (18446744073709551615, 20)
unfolding field_at is_sample most_of natural_at
most-64 = refl
