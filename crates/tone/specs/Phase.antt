-- Phases: samples with 29 fraction bits, in 64 bits that wrap.
use Rattle.std.specs.Prelude.{ℕ, ◌+◌, ◌-◌, ◌*◌, ◌/◌, ◌%◌, ◌^◌, min, ℤ, pos, ◌*ℤ◌}
use Rattle.std.specs.Int.Signed.{shr_z}
use Rattle.num.specs.Integers.{up, down}

-- the step of a tick, in samples with 26 fraction bits: 89,478 and a half for each of the frequency
abbrev pub phase_step : ℕ → ℕ
phase_step frequency = frequency * 89478 + frequency / 2

abbrev pub wave_phase_step : ℕ → ℕ
wave_phase_step frequency = phase_step frequency * 8

-- a PCM voice's frequency counts up to 48,000, a stream's up to 12,000
abbrev pub pcm_phase_step : ℕ → ℕ
pcm_phase_step frequency = phase_step (min frequency 48000)

abbrev pub sqv4_phase_step : ℕ → ℕ
sqv4_phase_step frequency = phase_step (min frequency 12000)

-- whole samples, and the fraction after them in 1/256
abbrev pub whole : ℕ → ℕ
whole phase = phase / 2 ^ 29

abbrev pub fraction : ℕ → ℕ
fraction phase = phase / 2 ^ 21 % 256

abbrev pub stepped : ℕ → ℕ → ℕ
stepped phase step = (phase + step) % 2 ^ 64

-- the phase of a whole sample
abbrev pub phase_of : ℕ → ℕ
phase_of sample = sample * 2 ^ 29 % 2 ^ 64

-- what phase modulation adds to the position: a shift, which rounds down
abbrev pub phase_offset : ℕ → ℤ → ℤ
phase_offset param modulator = shr_z (pos param *ℤ modulator) (2 ^ 12)

abbrev pub moved : ℕ → ℤ → ℕ
moved position by = (position + up by + (2 ^ 64 - down by)) % 2 ^ 64
