-- A line read: its numbers, or the first field that is missing, malformed or out of range.
use Rattle.std.specs.Prelude.{Bool, true, cond, ◌&&◌, List, [], ◌∷◌, ◌++◌, ℕ, zero, suc, ◌+◌, eqb, leb, ℤ, pos, negsuc, length, get_or, Some, None, Result, Ok, Err}
use Rattle.std.specs.Int.Signed.{lt_z}
use Rattle.std.specs.Int.{w16}
use Rattle.std.proofs.Common.{of_z}
use Rattle.decimal.specs.Read.{natural_at, number_at, Numeral}
use Rattle.line_fields.specs.Table.{is_sample, most_of, counted, fixed}
use Rattle.line_fields.specs.declared.FieldError.{FieldError}
use Rattle.line_fields.specs.declared.FieldError.TheVariants.{Malformed}

-- a field's number and the place behind it
abbrev pub Part : Type 0
Part = Result (ℕ × ℕ) FieldError

-- the place behind some fields, or how many fields a line has
abbrev pub Fields : Type 0
Fields = Result ℕ FieldError

-- ---- one field; its number from 1 is `field`

abbrev pub natural_of : ℕ → ℕ → Numeral ℕ → Part
natural_of field most (Some (n, next)) = cond (leb n most) (Ok (n, next)) (Err (Malformed field))
natural_of field most None = Err (Malformed field)

abbrev pub sample_of16 : ℕ → Numeral ℤ → Part
sample_of16 field (Some (z, next)) = cond (lt_z z (negsuc 32767)) (Err (Malformed field)) (cond (lt_z (pos 32767) z) (Err (Malformed field)) (Ok (of_z w16 z, next)))
sample_of16 field None = Err (Malformed field)

-- the numeral of field k
unfoldable pub field_at : Bool → ℕ → List ℕ → ℕ → Part
field_at fifo k text at =
    cond (is_sample k) (sample_of16 (suc k) (number_at text at)) (natural_of (suc k) (most_of fifo k) (natural_at text at))

-- a line or the text ends at a place
unfoldable pub ends_at : List ℕ → ℕ → Bool
ends_at text at = cond (leb (length text) at) true (eqb (get_or text at 0) 10)

-- field k with the comma before it. Where no comma stands, field k is missing if the line ends there; else the field before it is malformed
unfoldable pub part_at : Bool → ℕ → List ℕ → ℕ → Part
part_at fifo k text at =
    cond (eqb k 0) (field_at fifo k text at)
    (cond (eqb (get_or text at 0) 44) (field_at fifo k text (at + 1))
    (Err (Malformed (cond (ends_at text at) (suc k) k))))

-- ---- fields one behind the other: their numbers and the place behind them, or those before the field at fault and its number

pub data PartsTaken : Type 0 where
  got : List ℕ → ℕ → PartsTaken
  wrong : List ℕ → ℕ → PartsTaken

-- a number before those taken
abbrev pub onto : ℕ → PartsTaken → PartsTaken
onto n (got ns next) = got (n ∷ ns) next
onto n (wrong ns field) = wrong (n ∷ ns) field

abbrev pub and_then : Part → (ℕ → ℕ → PartsTaken) → PartsTaken
and_then (Ok (n, next)) rest = onto n (rest n next)
and_then (Err (Malformed field)) rest = wrong [] field

-- n fields from field k on
unfoldable pub parts_at : Bool → List ℕ → ℕ → ℕ → ℕ → PartsTaken
parts_at fifo text zero k at = got [] at
parts_at fifo text (suc n) k at = and_then (part_at fifo k text at) (λ x. parts_at fifo text n (suc k))

-- ---- the line: the fixed fields, as many samples as the last of them says, and one byte 10

pub data ReadLine : Type 0 where
  line : List ℕ → ReadLine
  malformed : List ℕ → ℕ → ReadLine

unfoldable pub closed_at : List ℕ → ℕ → Bool
closed_at text at = eqb (get_or text at 0) 10 && eqb (length text) (at + 1)

abbrev pub follows : List ℕ → PartsTaken → PartsTaken
follows ns (got ms next) = got (ns ++ ms) next
follows ns (wrong ms field) = wrong (ns ++ ms) field

abbrev pub line_ended : List ℕ → PartsTaken → ReadLine
line_ended text (got ns next) = cond (closed_at text next) (line ns) (malformed ns (length ns + 1))
line_ended text (wrong ns field) = malformed ns field

-- the count and the samples
unfoldable pub queue_part_at : Bool → List ℕ → ℕ → PartsTaken
queue_part_at fifo text at = and_then (part_at fifo counted text at) (λ n. parts_at fifo text n fixed)

abbrev pub with_queue : Bool → List ℕ → PartsTaken → PartsTaken
with_queue fifo text (got ns next) = follows ns (queue_part_at fifo text next)
with_queue fifo text (wrong ns field) = wrong ns field

unfoldable pub read_line : Bool → List ℕ → ReadLine
read_line fifo text = line_ended text (with_queue fifo text (parts_at fifo text counted 0 0))

-- ---- the code's answers, and the numbers that it leaves in a buffer

abbrev pub numbers_in : PartsTaken → List ℕ
numbers_in (got ns next) = ns
numbers_in (wrong ns field) = ns

abbrev pub parts_of : PartsTaken → Fields
parts_of (got ns next) = Ok next
parts_of (wrong ns field) = Err (Malformed field)

abbrev pub close_of : List ℕ → ℕ → Fields → Fields
close_of text count (Ok next) = cond (closed_at text next) (Ok count) (Err (Malformed (count + 1)))
close_of text count (Err (Malformed field)) = Err (Malformed field)

-- of the fields from field 281 on
abbrev pub queue_fields : List ℕ → PartsTaken → Fields
queue_fields text t = close_of text (counted + length (numbers_in t)) (parts_of t)

abbrev pub fields_of : ReadLine → Fields
fields_of (line ns) = Ok (length ns)
fields_of (malformed ns field) = Err (Malformed field)

abbrev pub line_numbers : ReadLine → List ℕ
line_numbers (line ns) = ns
line_numbers (malformed ns field) = ns

-- ---- document 01's number of an answer, and the field at fault; one that is no refusal has none
abbrev pub part_number : Part → List ℕ
part_number (Ok (number, next)) = []
part_number (Err (Malformed field)) = 16 ∷ field ∷ []

abbrev pub fields_number : Fields → List ℕ
fields_number (Ok n) = []
fields_number (Err (Malformed field)) = 16 ∷ field ∷ []

-- of what was read
unfoldable pub taken_refusal : PartsTaken → List ℕ
taken_refusal (got ns next) = []
taken_refusal (wrong ns field) = 16 ∷ field ∷ []

unfoldable pub line_refusal : ReadLine → List ℕ
line_refusal (line ns) = []
line_refusal (malformed ns field) = 16 ∷ field ∷ []
