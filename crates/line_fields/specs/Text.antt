-- A line written: fields parted by commas, ended by byte 10.
use Rattle.std.specs.Prelude.{cond, List, [], ◌∷◌, ◌++◌, ℕ, suc, eqb, leb, length, Result, Ok, Err}
use Rattle.std.proofs.lemmas.List.Edits.{sets}
use Rattle.decimal.specs.Written.{decimal, render}
use Rattle.line_fields.specs.Table.{is_sample, sample_of_number}
use Rattle.line_fields.specs.declared.RoomError.{RoomError}
use Rattle.line_fields.specs.declared.RoomError.TheVariants.{TextBuffer}

-- field k's numeral
unfoldable pub field_text : ℕ → ℕ → List ℕ
field_text k n = cond (is_sample k) (render (sample_of_number n)) (decimal n)

-- and the comma before it
unfoldable pub part_text : ℕ → ℕ → List ℕ
part_text k n = cond (eqb k 0) (field_text k n) (44 ∷ field_text k n)

-- the fields from field k on
unfoldable pub parts_text : ℕ → List ℕ → List ℕ
parts_text k [] = []
parts_text k (n ∷ ns) = part_text k n ++ parts_text (suc k) ns

unfoldable pub line_text : List ℕ → List ℕ
line_text ns = parts_text 0 ns ++ (10 ∷ [])

-- ---- a text put at a buffer's beginning, if there is room for it

-- its length, or that the buffer is shorter
abbrev pub Written : Type 0
Written = Result ℕ RoomError

abbrev pub written_of : List ℕ → List ℕ → Written
written_of out text = cond (leb (length text) (length out)) (Ok (length text)) (Err TextBuffer)

abbrev pub put_of : List ℕ → List ℕ → List ℕ
put_of out text = cond (leb (length text) (length out)) (sets out 0 text) out

-- document 01's number of an answer; one that is no refusal has none
abbrev pub written_number : Written → List ℕ
written_number (Ok n) = []
written_number (Err TextBuffer) = 15 ∷ []

-- of a text that is to be put into a buffer
unfoldable pub room_refusal : List ℕ → List ℕ → List ℕ
room_refusal out text = cond (leb (length text) (length out)) [] (15 ∷ [])
