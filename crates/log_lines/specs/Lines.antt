-- Document 01's log lines, each without its closing byte 10; document 02's strict addresses.
use Rattle.std.specs.Prelude.{Bool, true, cond, Option, Some, None, Result, Ok, Err, is_err, List, ℕ, ◌+◌, ◌≤◌, eqb, leb, ltb, length, get_or}
use Rattle.sizes.specs.Sizes.{registers_end, last_version}
use Rattle.decimal.specs.Read.{natural_at, Numeral}
use Rattle.log_lines.specs.declared.Line.{Line}
use Rattle.log_lines.specs.declared.Line.TheVariants.{Write, WriteRam, Read, Peek, Clock, Version}
use Rattle.log_lines.specs.declared.LineFault.{LineFault}
use Rattle.log_lines.specs.declared.LineFault.TheVariants.{Malformed, Unmapped, Late, Crowded}

-- ---- numerals
-- a numeral that ends with the line, of a number of at most `most`
abbrev pub one_of : List ℕ → ℕ → Numeral ℕ → Option ℕ
one_of text most (Some (n, next)) = cond (eqb next (length text)) (cond (leb n most) (Some n) None) None
one_of text most None = None

unfoldable pub one_at : List ℕ → ℕ → ℕ → Option ℕ
one_at text at most = one_of text most (natural_at text at)

abbrev pub Within : ℕ → Option ℕ → Type 0
Within most (Some n) = n ≤ most
Within most None = Unit

abbrev pub address_and : ℕ → Option ℕ → Option (ℕ × ℕ)
address_and a (Some v) = Some (a, v)
address_and a None = None

-- an address, a comma and a byte
abbrev pub two_of : List ℕ → Numeral ℕ → Option (ℕ × ℕ)
two_of text (Some (a, next)) = cond (leb a 4294967295) (cond (eqb (get_or text next 0) 44) (address_and a (one_at text (next + 1) 255)) None) None
two_of text None = None

unfoldable pub two_at : List ℕ → ℕ → Option (ℕ × ℕ)
two_at text at = two_of text (natural_at text at)

-- ---- lines
-- an `M` line (77) names a byte of the RAM, any other line a register: there are 2,304
abbrev pub is_mapped : ℕ → ℕ → Bool
is_mapped kind address = cond (eqb kind 77) true (ltb address registers_end)

unfoldable pub addressed : ℕ → ℕ → Line → Result Line LineFault
addressed kind address line = cond (is_mapped kind address) (Ok line) (Err Unmapped)

abbrev pub as_write : Option (ℕ × ℕ) → Result Line LineFault
as_write (Some (a, v)) = addressed 87 a (Write a v)
as_write None = Err Malformed

abbrev pub written_ram : Option (ℕ × ℕ) → Result Line LineFault
written_ram (Some (a, v)) = addressed 77 a (WriteRam a v)
written_ram None = Err Malformed

abbrev pub read_of : Option ℕ → Result Line LineFault
read_of (Some a) = addressed 82 a (Read a)
read_of None = Err Malformed

abbrev pub peek_of : Option ℕ → Result Line LineFault
peek_of (Some a) = addressed 80 a (Peek a)
peek_of None = Err Malformed

-- 1 to 1,000 frames
abbrev pub clock_of : Option ℕ → Result Line LineFault
clock_of (Some n) = cond (eqb n 0) (Err Malformed) (Ok (Clock n))
clock_of None = Err Malformed

abbrev pub as_version : Option ℕ → Result Line LineFault
as_version (Some v) = Ok (Version v)
as_version None = Err Malformed

-- W 87, M 77, R 82, P 80, C 67, V 86
abbrev pub by_kind : List ℕ → ℕ → Result Line LineFault
by_kind text k =
    cond (eqb k 87) (as_write (two_at text 2))
    (cond (eqb k 77) (written_ram (two_at text 2))
    (cond (eqb k 82) (read_of (one_at text 2 4294967295))
    (cond (eqb k 80) (peek_of (one_at text 2 4294967295))
    (cond (eqb k 67) (clock_of (one_at text 2 1000))
    (cond (eqb k 86) (as_version (one_at text 2 last_version))
    (Err Malformed))))))

unfoldable pub parsed_line : List ℕ → Result Line LineFault
parsed_line text = cond (eqb (get_or text 1 0) 44) (by_kind text (get_or text 0 0)) (Err Malformed)

-- the number of a bad line, document 01's or document 02's
abbrev pub number_of : LineFault → ℕ
number_of Malformed = 17
number_of Unmapped = 27
number_of Late = 18
number_of Crowded = 19

-- the same of a line; a good one has none, which is 0
abbrev pub bad_number : Result Line LineFault → ℕ
bad_number (Ok line) = 0
bad_number (Err why) = number_of why

-- a bad line is not played, and ends the log
abbrev pub is_bad : Result Line LineFault → Bool
is_bad line = is_err line
