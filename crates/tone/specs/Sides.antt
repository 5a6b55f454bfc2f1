-- The sides of a frame: what a tick gives a side, and where the sum of some ticks lies.
use Rattle.std.specs.Prelude.{ℕ, ◌*◌, ◌≤◌, ℤ}
use Rattle.num.specs.Integers.{up, down}
use Rattle.tone.specs.Mix.{master_gain, pan}

-- a sample after the volume, on the side with a weight
abbrev pub side : ℤ → ℕ → ℤ
side sample weight = pan (master_gain sample) weight

-- a sum of n ticks lies in -4,096 n to 4,095 n
pub record Ticks (n : ℕ) (z : ℤ) : Type 0 where
  pub high : up z ≤ 4095 * n
  pub low : down z ≤ 4096 * n
