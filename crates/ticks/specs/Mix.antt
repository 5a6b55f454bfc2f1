-- A tick's sample on the two sides.
use Rattle.std.specs.Prelude.{ℕ, ◌+◌, ◌≤◌, ◌^◌, ℤ, pos}
use Rattle.tone.specs.Mix.{last_sample_of, volume_of, high_nibble, low_nibble, wrapping_add}
use Rattle.tone.specs.Sides.{side, Ticks}
use Rattle.ticks.specs.Oscillators.{set_last}
use Rattle.ticks.specs.declared.Setting.{Setting}
use Rattle.ticks.specs.declared.Ticked.{Ticked}
use Rattle.ticks.specs.declared.Sides.{Sides}
use Rattle.ticks.specs.declared.Sound.{Sound}

abbrev pub silence : Sides
silence = record { sample = pos 0; left = pos 0; right = pos 0 }

-- a sample after the volume, added to the sides; the sums are of 32 bits, and those of a frame lie far inside
unfoldable pub heard : Sides → ℤ → ℕ → Sides
heard v sample panpot = record {
  sample = sample;
  left = wrapping_add v.left (side sample (high_nibble panpot));
  right = wrapping_add v.right (side sample (low_nibble panpot));
}

-- the sides after at most n ticks from silence on
pub record Room (n : ℕ) (v : Sides) : Type 0 where
  pub lefts : Ticks n v.left
  pub rights : Ticks n v.right

-- n ticks more give no more than n ticks can
abbrev pub Adds : ℕ → Sides → Sides → Type 0
Adds n before after = (m : ℕ) → m + n ≤ 2 ^ 18 → Room m before → Room (m + n) after

-- what a tick leaves: its whole samples for other voices to see, and its sample on the sides
unfoldable pub sound_after : Setting → Sides → Ticked → Sound
sound_after s sides r = record {
  oscillator = set_last r.oscillator (last_sample_of r.q8);
  sides = heard sides (volume_of r.q8 s.volume) s.panpot;
}
