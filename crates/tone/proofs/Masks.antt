-- What the masks mean: a place modulo the length. Assumes nothing.
use Rattle.std.proofs.Common.{◌≡◌, ℕ, ◌+◌, ◌-◌, ◌/◌, ◌%◌, ◌^◌, ◌≤◌, ap, ◌∙◌, arith, pow_pos, pow_mono, pow-add}
use lib.Pow.{shl-shr}
use Rattle.num.specs.Bits.{Power}
use Rattle.num.proofs.Bits.{masked}
use Rattle.tone.specs.Taps.{wavetable_mask, wave_index, wave_after}
use Rattle.tone.specs.Pcm.{pcm_address}

-- 256, shifted down by k
shifted : (k : ℕ) → k ≤ 8 → 256 / 2 ^ k ≡ 2 ^ (8 - k)
shifted k h = ap (λ (n : ℕ). n / 2 ^ k) (ap (λ (e : ℕ). 2 ^ e) (parts k h) ∙ pow-add 2 (8 - k) k) ∙ shl-shr (2 ^ (8 - k)) k
  where
    parts : (k : ℕ) → k ≤ 8 → 8 ≡ (8 - k) + k
    parts k h = omega arith

pub length-range : (k : ℕ) → k ≤ 8 → (1 ≤ 256 / 2 ^ k) × (256 / 2 ^ k ≤ 256)
length-range k h = rw (shifted k h) (pow_pos (8 - k), pow_mono {i = 8 - k} {j = 8} (omega arith))

length-power : (control : ℕ) → Power (256 / 2 ^ (control % 4))
length-power control = record { log = 8 - control % 4; is = shifted (control % 4) (omega arith) }

-- a wavetable's places
pub wave-index : (position control : ℕ) → wave_index position (wavetable_mask control) ≡ position % (256 / 2 ^ (control % 4))
wave-index position control = masked position (256 / 2 ^ (control % 4)) (length-power control)

pub wave-after : (index control : ℕ) → wave_after index (wavetable_mask control) ≡ (index + 1) % (256 / 2 ^ (control % 4))
wave-after index control = masked (index + 1) (256 / 2 ^ (control % 4)) (length-power control)

-- a place in the RAM
pub pcm-address : (position start length : ℕ) → Power length → pcm_address position start length ≡ (position + start) % 2 ^ 64 % length
unfolding pcm_address
pcm-address position start length p = masked ((position + start) % 2 ^ 64) length p
