-- Single bits of a number.
use Rattle.std.specs.Prelude.{ℕ, zero, suc, ◌+◌, ◌*◌, ◌/◌, ◌%◌, ◌^◌, min, max, ◌≡◌}

-- bit k
abbrev pub bit : ℕ → ℕ → ℕ
bit k n = n / 2 ^ k % 2

-- n with bit k set where b is 1; the bits above and below are as they were
abbrev pub with_bit : ℕ → ℕ → ℕ → ℕ
with_bit k b n = (n / 2 ^ k / 2 * 2 + max (n / 2 ^ k % 2) b) * 2 ^ k + n % 2 ^ k

-- the w bits of n from bit k on
abbrev pub field_of : ℕ → ℕ → ℕ → ℕ
field_of k w n = n / 2 ^ k % 2 ^ w

-- n with v for those bits; the bits above and below are as they were
abbrev pub with_field : ℕ → ℕ → ℕ → ℕ → ℕ
with_field k w v n = (n / 2 ^ k / 2 ^ w * 2 ^ w + v) * 2 ^ k + n % 2 ^ k

-- byte k, the lowest being 0, and n with v for it
abbrev pub byte_of : ℕ → ℕ → ℕ
byte_of k n = field_of (8 * k) 8 n

abbrev pub with_byte : ℕ → ℕ → ℕ → ℕ
with_byte k v n = with_field (8 * k) 8 v n

-- how many of the k lowest bits are set in both l and t
unfoldable pub selected : ℕ → ℕ → ℕ → ℕ
selected zero l t = 0
selected (suc k) l t = min (l % 2) (t % 2) + selected k (l / 2) (t / 2)

-- a power of two
pub record Power (n : ℕ) : Type 0 where
  pub log : ℕ
  pub is : n ≡ 2 ^ log
