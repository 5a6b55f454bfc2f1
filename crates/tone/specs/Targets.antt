-- Which channel modulates a channel.
use Rattle.std.specs.Prelude.{ℕ, ◌%◌, cond, ℤ, pos, ◌+ℤ◌, ◌-ℤ◌, ◌==◌, int_le, int_lt, nat_lt}
use Rattle.num.specs.Integers.{up}

-- 0 to 3 ahead, 4 to 7 as 4 to 1 behind
abbrev pub relative : ℕ → ℤ
relative target = cond (nat_lt target 4) (pos target) (pos target -ℤ pos 8)

-- back among the eight channels
abbrev pub among_eight : ℤ → ℤ
among_eight z = cond (int_lt z (pos 0)) (z +ℤ pos 8) (cond (int_le (pos 8) z) (z -ℤ pos 8) z)

-- the low three bits keep a carrier above 7 there too
unfoldable pub absolute_channel : ℕ → ℕ → ℕ → ℕ
absolute_channel carrier mode target =
    cond (mode == 0) (target % 8) (up (among_eight (pos carrier +ℤ relative (target % 8))) % 8)
