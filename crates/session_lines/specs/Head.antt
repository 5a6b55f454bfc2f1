-- The head of a session text.
use Rattle.std.specs.Prelude.{Bool, cond, ◌&&◌, List, [], ◌∷◌, ◌++◌, ℕ, ◌+◌, eqb, leb, get_or, Some, None, Result, Ok, Err}
use Rattle.sizes.specs.Sizes.{last_version}
use Rattle.decimal.specs.Written.{decimal}
use Rattle.decimal.specs.Read.{natural_at, Numeral}
use Rattle.line_fields.specs.Reading.{ends_at, closed_at}
use Rattle.tone.specs.Pcm.{is_ram_length}
use Rattle.version.specs.Versions.{version_number, version_of}
use Rattle.version.specs.declared.SguVersion.{SguVersion}
use Rattle.session_lines.specs.declared.SessionHead.{SessionHead}
use Rattle.session_lines.specs.declared.SessionHead.TheVariants.{Version, Sized}
use Rattle.line_fields.specs.declared.FieldError.{FieldError}
use Rattle.line_fields.specs.declared.FieldError.TheVariants.{Malformed}

-- `S3W2`, the version's digit and the RAM's length, parted by commas, and byte 10
unfoldable pub head_text : SguVersion → ℕ → List ℕ
head_text version size = 83 ∷ 51 ∷ 87 ∷ 50 ∷ 44 ∷ (48 + version_number version) ∷ 44 ∷ (decimal size ++ (10 ∷ []))

unfoldable pub has_magic : List ℕ → Bool
has_magic text = eqb (get_or text 0 0) 83 && (eqb (get_or text 1 0) 51 && (eqb (get_or text 2 0) 87 && eqb (get_or text 3 0) 50))

-- what a head is, or the first field at fault
abbrev pub HeadLine : Type 0
HeadLine = Result SessionHead FieldError

-- field 3 is an allowed length
abbrev pub sized_head : List ℕ → SguVersion → Numeral ℕ → HeadLine
sized_head text version (Some (size, next)) = cond (is_ram_length size) (cond (closed_at text next) (Ok (Sized version size)) (Err (Malformed 4))) (Err (Malformed 3))
sized_head text version None = Err (Malformed 3)

-- behind the version: the end of a head of two fields, or the comma before the third
unfoldable pub behind_version : List ℕ → SguVersion → ℕ → HeadLine
behind_version text version next =
    cond (eqb (get_or text next 0) 44) (sized_head text version (natural_at text (next + 1))) (cond (closed_at text next) (Ok (Version version)) (Err (Malformed 3)))

abbrev pub head_of : List ℕ → Numeral ℕ → HeadLine
head_of text (Some (n, next)) = cond (leb n last_version) (behind_version text (version_of n) next) (Err (Malformed 2))
head_of text None = Err (Malformed 2)

unfoldable pub read_head : List ℕ → HeadLine
read_head text =
    cond (has_magic text) (cond (eqb (get_or text 4 0) 44) (head_of text (natural_at text 5)) (Err (Malformed (cond (ends_at text 4) 2 1)))) (Err (Malformed 1))

-- document 01's number of an answer, and the field at fault
abbrev pub head_line_number : HeadLine → List ℕ
head_line_number (Ok (Version version)) = []
head_line_number (Ok (Sized version size)) = []
head_line_number (Err (Malformed field)) = 16 ∷ field ∷ []

-- of a text that is read as one
unfoldable pub head_refusal : List ℕ → List ℕ
head_refusal text = head_line_number (read_head text)
