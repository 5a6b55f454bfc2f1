-- Codes packed into bytes, the first code in the lowest bits; numbers as bytes.
use Rattle.std.specs.Prelude.{List, [], ◌∷◌, ℕ, zero, suc, ◌+◌, ◌*◌, ◌/◌, ◌%◌, ◌^◌}
use Rattle.adpcm.specs.declared.Variant.{Variant}
use Rattle.adpcm.specs.Codes.{bits_of, payload_bytes}

-- codes of w bits as one number
unfoldable pub codes_number : ℕ → List ℕ → ℕ
codes_number w [] = 0
codes_number w (c ∷ cs) = codes_number w cs * 2 ^ w + c

-- a number as m bytes, the lowest first
unfoldable pub bytes_of : ℕ → ℕ → List ℕ
bytes_of zero n = []
bytes_of (suc m) n = n % 256 ∷ bytes_of m (n / 256)

-- a fragment's codes; what follows the last is zero
abbrev pub packed : Variant → List ℕ → List ℕ
packed k codes = bytes_of (payload_bytes k) (codes_number (bits_of k) codes)
