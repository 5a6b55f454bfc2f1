-- The lines that tell of an SQV4 file.
use Rattle.std.specs.Prelude.{ℕ, ◌-◌, ◌*◌, ◌^◌, min, List, [], ◌∷◌, ◌++◌, ℤ, Result, Ok, Err}
use Rattle.adpcm.specs.Codes.{variant_number}
use Rattle.sqv4.specs.declared.Header.{Header}
use Rattle.sqv4.specs.Files.{number_of}
use Rattle.decimal.specs.Written.{decimal, render, each}
use Rattle.sqv4.specs.declared.InspectError.{InspectError}

-- f of the header of an accepted file, or what stands for a refusal
abbrev pub from_header : {A : Type 0} → (Header → A) → A → Result Header InspectError → A
from_header f refused (Ok h) = f h
from_header f refused (Err e) = refused

abbrev pub header_values : Header → List ℕ
header_values h = h.version ∷ variant_number h.variant ∷ h.channels ∷ h.sample_rate ∷ h.samples_per_channel ∷ []

-- the numbers of a line: what the header says, or document 01's number of a refusal with its values
unfoldable pub values_of : Result Header InspectError → List ℕ
values_of found = from_header header_values (number_of found) found

-- how a line begins: `file` or `refused`
unfoldable pub word_of : Result Header InspectError → List ℕ
word_of found = from_header (λ h. 102 ∷ 105 ∷ 108 ∷ 101 ∷ []) (114 ∷ 101 ∷ 102 ∷ 117 ∷ 115 ∷ 101 ∷ 100 ∷ []) found

-- each number after a comma
unfoldable pub fields : List ℕ → List ℕ
fields values = each (λ (n : ℕ). 44 ∷ decimal n) values

-- the whole line
unfoldable pub answer_line : Result Header InspectError → List ℕ
answer_line found = word_of found ++ (fields (values_of found) ++ (10 ∷ []))

-- each sample on a line of its own
unfoldable pub lines : List ℤ → List ℕ
lines samples = each (λ (z : ℤ). render z ++ (10 ∷ [])) samples

-- the interleaved samples of a file; a header's count has 32 bits
abbrev pub header_samples : Header → ℕ
header_samples h = min h.samples_per_channel (2 ^ 32 - 1) * h.channels

unfoldable pub samples_in : Result Header InspectError → ℕ
samples_in found = from_header header_samples 0 found
