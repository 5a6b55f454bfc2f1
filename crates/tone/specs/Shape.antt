-- What modulation makes of an unsigned Q8.8 value, by the Rust's signed rules: ring, window, slews; then the value about its centre.
use Rattle.std.specs.Prelude.{ℕ, ◌*◌, ◌/◌, Bool, cond, ℤ, pos, ◌+ℤ◌, ◌-ℤ◌, ◌*ℤ◌, neg_ℤ, ◌==◌, int_div, int_lt}
use Rattle.num.specs.Integers.{up, clamp}

-- a value about its centre times the modulator times the parameter, / 65,536 toward zero
abbrev pub rung : ℕ → ℕ → ℕ → ℤ → ℕ → ℕ
rung value centre top modulator param =
    up (clamp (int_div ((pos value -ℤ pos centre) *ℤ (modulator *ℤ pos param)) (pos 65536) +ℤ pos centre) (pos 0) (pos top))

-- without interpolation on whole samples
unfoldable pub ring : ℕ → ℤ → ℕ → Bool → ℕ
ring q8 modulator param interpolate =
    cond interpolate (rung q8 32768 65280 modulator param) (rung (q8 / 256) 128 255 modulator param * 256)

abbrev pub window : ℕ → ℤ → ℕ
window q8 modulator = cond (int_lt modulator (pos 0)) 32768 q8

-- toward the value, by at most the step
unfoldable pub slew_rate : ℕ → ℕ → ℕ → ℕ
slew_rate current q8 step =
    up (clamp (pos current +ℤ clamp (pos q8 -ℤ pos current) (neg_ℤ (pos step)) (pos step)) (pos 0) (pos 65280))

-- by the step: up where the value is above, else down
unfoldable pub slew_step : ℕ → ℕ → ℕ → ℕ
slew_step current q8 step =
    up (clamp (pos current +ℤ cond (int_lt (pos 0) (pos q8 -ℤ pos current)) (pos step) (neg_ℤ (pos step))) (pos 0) (pos 65280))

-- the slew register after a tick, by the number of the modulation
unfoldable pub slew : ℕ → ℕ → ℕ → ℕ → ℕ
slew modulation current q8 step =
    cond (modulation == 5) (slew_rate current q8 step) (cond (modulation == 6) (slew_step current q8 step) current)

-- what is heard of the new register and the value
unfoldable pub slewed : ℕ → ℕ → ℕ → ℕ
slewed modulation register q8 = cond (modulation == 5) register (cond (modulation == 6) register q8)

-- without interpolation whole samples
unfoldable pub centred : ℕ → Bool → ℤ
centred q8 interpolate = pos (cond interpolate q8 (q8 / 256 * 256)) -ℤ pos 32768
