-- Where a text goes on.
use Rattle.std.specs.Prelude.{ℕ, ◌+◌, cond, nat_le}

-- in a text of a length, behind the bytes before `at`, if `room` bytes are left behind them; else those are written, and it is begun again
unfoldable pub place_after : ℕ → ℕ → ℕ → ℕ
place_after length at room = cond (nat_le (at + room) length) at 0
