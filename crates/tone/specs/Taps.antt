-- Places in a wavetable, and two taps blended by a fraction in 1/256. Values are in Q8.8.
use Rattle.std.specs.Prelude.{ℕ, ◌+◌, ◌-◌, ◌*◌, ◌/◌, ◌%◌, ◌^◌, ℤ, pos, ◌+ℤ◌, ◌*ℤ◌, bit_and}

-- one less than the samples of a wavetable
abbrev pub wavetable_mask : ℕ → ℕ
wavetable_mask control = 256 / 2 ^ (control % 4) - 1

abbrev pub wave_index : ℕ → ℕ → ℕ
wave_index position mask = bit_and position mask

-- the place of the second tap
abbrev pub wave_after : ℕ → ℕ → ℕ
wave_after index mask = bit_and (index + 1) mask

abbrev pub wave_cycle : ℕ → ℕ
wave_cycle mask = (mask + 1) * 2 ^ 29

abbrev pub raised : ℕ → ℕ
raised sample = sample * 256

abbrev pub blend : ℕ → ℕ → ℕ → ℕ
blend current next fraction = current * (256 - fraction) + next * fraction

-- the same of a stream's samples
abbrev pub raised_sample : ℤ → ℤ
raised_sample sample = sample *ℤ pos 256

abbrev pub blend_samples : ℤ → ℤ → ℕ → ℤ
blend_samples current next fraction = current *ℤ pos (256 - fraction) +ℤ next *ℤ pos fraction
