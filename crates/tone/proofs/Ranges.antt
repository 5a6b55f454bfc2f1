-- The definitions stay in the ranges of their registers. Assumes nothing.
use Rattle.std.proofs.Common.{ℕ, ◌+◌, ◌-◌, ◌*◌, ◌/◌, ◌%◌, ◌^◌, ◌<◌, ◌≤◌, Bool, true, false, cond, eqb, ltb, ℤ, pos, ◌+ℤ◌, ◌-ℤ◌, ◌*ℤ◌, neg_ℤ, arith, w16, SFits}
use native.Mathlib.Nat as N
use lib.Signed.{lt_z, quot_z, mag_shr}
use Rattle.num.specs.Integers.{clamp}
use Rattle.num.proofs.Choice.{cond-by}
use Rattle.num.proofs.Integers.{fit, z-sub, one-zero}
use Rattle.num.proofs.Fit.{up-clamp, fit-abs, abs-fit, mul_small, abs-quot}
use Rattle.tone.specs.Taps.{blend}
use Rattle.tone.specs.Shape.{rung, ring, slew_rate, slew_step, slew, centred}
use Rattle.tone.specs.Noise.{plain_bit, custom_taps, tap_bit, shifted, next_lfsr}
use Rattle.tone.specs.Pcm.{loops, pcm_phase_after}
use Rattle.tone.specs.Mix.{last_sample_of, volume_of}

pub blend-range : (a b f : ℕ) → a ≤ 255 → b ≤ 255 → f ≤ 255 → blend a b f ≤ 65280
blend-range a b f h k l = omega (arith, N.mul-le-mul_right (256 - f) h, N.mul-le-mul_right f k)

rung-range : (v centre top : ℕ) (m : ℤ) (p : ℕ) → rung v centre top m p ≤ top
rung-range v centre top m p = omega (arith, up-clamp (quot_z ((pos v -ℤ pos centre) *ℤ (m *ℤ pos p)) (pos 65536) +ℤ pos centre) top)

pub ring-range : (q : ℕ) (m : ℤ) (p : ℕ) (smooth : Bool) → ring q m p smooth ≤ 65280
unfolding ring
ring-range q m p true = rung-range q 32768 65280 m p
ring-range q m p false = omega (arith, rung-range (q / 256) 128 255 m p)

pub rate-range : (current q step : ℕ) → slew_rate current q step ≤ 65280
unfolding slew_rate
rate-range current q step = omega (arith, up-clamp (pos current +ℤ clamp (pos q -ℤ pos current) (neg_ℤ (pos step)) (pos step)) 65280)

pub step_range : (current q step : ℕ) → slew_step current q step ≤ 65280
unfolding slew_step
step_range current q step = omega (arith, up-clamp (pos current +ℤ cond (lt_z (pos 0) (pos q -ℤ pos current)) (pos step) (neg_ℤ (pos step))) 65280)

pub slew-range : (m current q step : ℕ) → current ≤ 65280 → slew m current q step ≤ 65280
unfolding slew
slew-range m current q step h =
    cond-by (λ (x : ℕ). x ≤ 65280) (eqb m 5) (slew_rate current q step) (cond (eqb m 6) (slew_step current q step) current) (λ e. rate-range current q step)
    (λ e. cond-by (λ (x : ℕ). x ≤ 65280) (eqb m 6) (slew_step current q step) current (λ g. step_range current q step) (λ g. h))

-- a value of 16 bits about its centre
pub about : (v : ℕ) → v < 65536 → SFits w16 (pos v -ℤ pos 32768)
about v h =
    let s = z-sub (pos v) (pos 32768) in
    let o = one-zero (pos v -ℤ pos 32768) in
    fit w16 _ (omega arith) (omega arith)

pub centred-fits : (q : ℕ) (smooth : Bool) → q < 65536 → SFits w16 (centred q smooth)
unfolding centred
centred-fits q true h = about q h
centred-fits q false h = about (q / 256 * 256) (omega arith)

pub last_fits : (z : ℤ) → SFits w16 z → SFits w16 (last_sample_of z)
last_fits z f = record { sfits = N.lt_of_le_of_lt (mag_shr z (2 ^ 8)) f.sfits }

pub volume-fits : (z : ℤ) (v : ℕ) → SFits w16 z → v ≤ 255 → SFits w16 (volume_of z v)
unfolding volume_of
volume-fits z v f h = fit-abs w16 _ 8160 (rw abs-quot (omega (arith, mul_small z (pos v) 32768 255 (abs-fit w16 f) h))) (omega arith)

shifted-range : (l b : ℕ) → l < 2 ^ 32 → b < 2 → shifted l b < 2 ^ 32
shifted-range l b h k = omega arith

pub lfsr-range : (l : ℕ) (custom : Bool) (p q : ℕ) → l < 2 ^ 32 → next_lfsr l custom p q < 2 ^ 32
unfolding next_lfsr
lfsr-range l true p q h = shifted-range l (tap_bit l (custom_taps p q)) h (omega arith)
lfsr-range l false p q h = shifted-range l (plain_bit l) h (omega arith)

pub phase-range : (phase address start end again control step : ℕ) → end < 2 ^ 32 → again < 2 ^ 32 → pcm_phase_after phase address start end again control step < 2 ^ 64
unfolding pcm_phase_after
phase-range phase address start end again control step h k =
    cond-by (λ (x : ℕ). x < 2 ^ 64) (ltb address end) ((phase + step) % 2 ^ 64) (cond (loops control) ((again - start) * 2 ^ 29) ((end - start) * 2 ^ 29))
    (λ e. omega arith) (λ e. cond-by (λ (x : ℕ). x < 2 ^ 64) (loops control) ((again - start) * 2 ^ 29) ((end - start) * 2 ^ 29) (λ g. omega arith) (λ g. omega arith))
