use Rattle.std.proofs.Common.{◌≡◌, ℕ, ap, ◌∙◌}
use Rattle.tone.specs.Noise.{custom_taps, tap_bit, shifted, next_lfsr}
use Rattle.tone.proofs.noise.next_lfsr.Goals as goal

-- the register shifted with either bit
custom-is : (lfsr p q taps bit next : ℕ) → taps ≡ custom_taps p q → bit ≡ tap_bit lfsr taps → next ≡ shifted lfsr bit → next ≡ shifted lfsr (tap_bit lfsr (custom_taps p q))
custom-is lfsr p q taps bit next e f g = rw (g, f, e)

pub returns-then-custom : goal.returns-then-custom
unfolding next_lfsr
returns-then-custom c = let a = c.args in
    rw c.if-custom.true (custom-is a.lfsr a.param_1 a.param_2 _ _ _ c.custom_taps.ensures.0 c.tap_bit.ensures.0 c.shifted.ensures)

pub returns : goal.returns
unfolding next_lfsr
returns c = let a = c.args in
    rw c.if-custom.false (c.shifted-2.ensures ∙ ap (shifted a.lfsr) c.plain_bit.ensures.0)
