-- Sums of ticks on a side: 32 of them, a frame, lie in -131,072 to 131,040. Assumes nothing.
use Rattle.std.proofs.Common.{ℕ, ◌+◌, ◌*◌, ◌/◌, ◌^◌, ◌≤◌, ℤ, pos, ◌+ℤ◌, ◌*ℤ◌, arith, w16, w32, SFits}
use native.Mathlib.Nat as N
use lib.Signed.{quot_z}
use Rattle.num.specs.Integers.{up, down}
use Rattle.num.proofs.Integers.{fit, fit-up, fit-down, z-add, one-zero, up-quot, down-quot, up-mul, down-mul}
use Rattle.tone.specs.Mix.{master_gain, pan}
use Rattle.tone.specs.Sides.{side, Ticks}

-- an eighth of a sample
pub gain-small : (s : ℤ) → SFits w16 s → (up (master_gain s) ≤ 4095) × (down (master_gain s) ≤ 4096)
unfolding master_gain
gain-small s f =
    (omega (arith, up-quot (quot_z s (pos 2)) 4, up-quot s 2, fit-up f), omega (arith, down-quot (quot_z s (pos 2)) 4, down-quot s 2, fit-down f))

weighed : (a w : ℕ) → w ≤ 15 → a * w / 15 ≤ a
weighed a w h = omega (arith, N.mul-le-mul_left a h)

-- a weight of at most 15 makes nothing larger
pub pan-small : (s : ℤ) (w : ℕ) → w ≤ 15 → (up (pan s w) ≤ up s) × (down (pan s w) ≤ down s)
unfolding pan
pan-small s w h =
    (rw (up-quot (s *ℤ pos w) 15, up-mul s w) (weighed (up s) w h), rw (down-quot (s *ℤ pos w) 15, down-mul s w) (weighed (down s) w h))

-- one tick, none, some and some more
pub tick-one : (s : ℤ) (w : ℕ) → SFits w16 s → w ≤ 15 → Ticks 1 (side s w)
tick-one s w f h =
    let g = gain-small s f in
    let p = pan-small (master_gain s) w h in
    record { high = omega arith; low = omega arith }

pub ticks-none : Ticks 0 (pos 0)
ticks-none = record { high = omega arith; low = omega arith }

pub ticks-sum : (m n : ℕ) (y z : ℤ) → Ticks m y → Ticks n z → Ticks (m + n) (y +ℤ z)
ticks-sum m n y z t u =
    let e = z-add y z in
    let o = one-zero (y +ℤ z) in
    record { high = omega (arith, t.high, u.high); low = omega (arith, t.low, u.low) }

pub ticks-more : (n : ℕ) (z s : ℤ) → Ticks n z → Ticks 1 s → Ticks (n + 1) (z +ℤ s)
ticks-more n z s t u = ticks-sum n 1 z s t u

pub ticks-wider : (m n : ℕ) (z : ℤ) → m ≤ n → Ticks m z → Ticks n z
ticks-wider m n z h t = record { high = omega (arith, t.high); low = omega (arith, t.low) }

pub ticks-fit : (n : ℕ) (z : ℤ) → n ≤ 2 ^ 18 → Ticks n z → SFits w32 z
ticks-fit n z h t = fit w32 z (omega (arith, t.high)) (omega (arith, t.low))

pub frame-range : (z : ℤ) → Ticks 32 z → (up z ≤ 131040) × (down z ≤ 131072)
frame-range z t = (omega (arith, t.high), omega (arith, t.low))
