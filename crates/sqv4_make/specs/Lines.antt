-- The lines of a text that a file is made of, each without its closing byte 10.
use Rattle.std.specs.Prelude.{ℕ, ◌+◌, ◌≤◌, cond, List, length, ℤ, pos, negsuc, ◌==◌, int_lt, nat_le, slice_index, Result, Ok, Option, Some, None, Err}
use Rattle.adpcm.specs.Codes.{variant_of}
use Rattle.decimal.specs.Read.{natural_at, number_at, Numeral}
use Rattle.adpcm.specs.declared.Variant.{Variant}
use Rattle.adpcm.specs.declared.UnknownVariant.{UnknownVariant}
use Rattle.sqv4_writer.specs.declared.Terms.{Terms}

-- ---- numerals
-- of a number of at most `most`
abbrev pub numeral_of : ℕ → Numeral ℕ → Option (ℕ × ℕ)
numeral_of most (Some (n, next)) = cond (nat_le n most) (Some (n, next)) None
numeral_of most None = None

unfoldable pub numeral_at : List ℕ → ℕ → ℕ → Option (ℕ × ℕ)
numeral_at line at most = numeral_of most (natural_at line at)

-- and behind a comma
unfoldable pub behind_comma : List ℕ → ℕ → ℕ → Option (ℕ × ℕ)
behind_comma line at most = cond (slice_index line at == 44) (numeral_at line (at + 1) most) None

abbrev pub Within : ℕ → Option (ℕ × ℕ) → Type 0
Within most (Some (n, next)) = n ≤ most
Within most None = Unit

-- ---- the first line: variant, rate, volume, step index
-- what follows a numeral, if there is one
abbrev pub and_then : Option (ℕ × ℕ) → (ℕ → ℕ → Option Terms) → Option Terms
and_then (Some (n, next)) f = f n next
and_then None f = None

abbrev pub saying_of : Result Variant UnknownVariant → ℕ → ℕ → ℕ → Option Terms
saying_of (Ok k) rate volume index = Some (record { variant = k; rate = rate; volume = volume; index = index })
saying_of (Err u) rate volume index = None

unfoldable pub levels_at : List ℕ → ℕ → ℕ → ℕ → Option Terms
levels_at line at number rate =
    and_then (behind_comma line at 255)
    (λ volume next. and_then (behind_comma line next 255) (λ index end. cond (end == length line) (saying_of (variant_of number) rate volume index) None))

unfoldable pub first_line : List ℕ → Option Terms
first_line line = and_then (numeral_at line 0 255) (λ number next. and_then (behind_comma line next 4294967295) (λ rate end. levels_at line end number rate))

-- ---- a sample's line
abbrev pub sample_within : ℕ → Numeral ℤ → Option ℤ
sample_within end (Some (z, next)) = cond (next == end) (cond (int_lt z (negsuc 32767)) None (cond (int_lt (pos 32767) z) None (Some z))) None
sample_within end None = None

unfoldable pub sample_line : List ℕ → Option ℤ
sample_line line = sample_within (length line) (number_at line 0)
