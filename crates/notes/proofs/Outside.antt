-- The sums that the table leaves out: 0 below it, 65,535 above it. Assumes nothing.
use mathlib.Core.Path.{refl}
use Prim.Native.Nat.{ℕ, ◌^◌, ◌<◌, ◌≤◌}
use native.Mathlib.Nat.{mul-le-mul_left}
use native.Mathlib.Omega.{arith}
use lib.Pow.{pow_mono}
use borrow.Author.Tests.{ltb-true, leb-true}
use Rattle.notes.specs.Pitches.{pitch_power, border_power, NearestPitch, top_frequency}

pitch-mono : (m n : ℕ) → m ≤ n → pitch_power m ≤ pitch_power n
unfolding pitch_power
pitch-mono m n h = mul-le-mul_left (880 ^ 12) (pow_mono h)

-- the borders themselves, computed: the last sum below one half, the first from 65,534.5 on
below_half : pitch_power 79 < border_power 1
unfolding pitch_power border_power
below_half = ltb-true _ _ refl

from_cut : border_power 131069 ≤ pitch_power 284
unfolding pitch_power border_power
from_cut = leb-true _ _ refl

border-none : border_power 0 ≤ 0
unfolding border_power
border-none = leb-true _ _ refl

pub lowest : (at : ℕ) → at < 80 → NearestPitch at 0
lowest at h = record {
  cut = omega arith;
  low = omega (arith, border-none);
  high = λ g. omega (arith, pitch-mono at 79 (omega arith), below_half);
}

pub highest : (at : ℕ) → 283 < at → NearestPitch at top_frequency
highest at h = record {
  cut = omega arith;
  low = omega (arith, pitch-mono 284 at (omega arith), from_cut);
  high = λ g. absurd (omega arith);
}
