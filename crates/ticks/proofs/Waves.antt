-- The end of a tick without a slew, and a wavetable's tick by its steps, with and without a target. Assumes nothing.
use mathlib.Core.Path.{◌≡◌, sym, ap, ◌∙◌}
use mathlib.Core.Bool.{Bool, true, false, cond}
use mathlib.Core.List.{List}
use Prim.Native.Nat.{ℕ, ◌≤◌, ◌<◌}
use native.Mathlib.Omega.{arith}
use lib.Dec.{eqb, leb, ltb}
use lib.IntN.{ℤ}
use lib.ListN.{get_or}
use borrow.Author.Tests.{leb-true, le-leb, lt-ltb, ne_eqb}
use Rattle.num.proofs.Choice.{never, both}
use Rattle.tone.specs.Phase.{whole, stepped}
use Rattle.tone.specs.Taps.{wave_index}
use Rattle.tone.specs.Shape.{slew, slewed, centred}
use Rattle.ticks.specs.Oscillators.{set_phase}
use Rattle.ticks.specs.Finish.{finished}
use Rattle.ticks.specs.Wavetable.{looks_at, wave_place, wave_tap, synced, shaped, wavetable_at, wavetable_tick}
use Rattle.ticks.specs.declared.Oscillator.{Oscillator}
use Rattle.ticks.specs.declared.Target.{Target}
use Rattle.ticks.specs.declared.Setting.{Setting}
use Rattle.ticks.specs.declared.Ticked.{Ticked}

-- ---- which modulations look at a target

pub looks : (m : ℕ) → looks_at m ≡ true → m ≤ 4
unfolding looks_at
looks m e = leb-true m 4 (both (leb m 4) (ltb 0 m) e).0

pub unseen : (m k : ℕ) → looks_at m ≡ false → 0 < k → k ≤ 4 → eqb m k ≡ false
unfolding looks_at
unseen m k e h l = ne_eqb m k (λ q. never (sym (seen m (omega arith) (omega arith)) ∙ e))
  where
    seen : (m : ℕ) → 0 < m → m ≤ 4 → looks_at m ≡ true
    seen m h l = rw (le-leb m 4 l, lt-ltb 0 m h)

-- ---- a tick whose modulation is no slew

pub finished-plain : (s : Setting) (o : Oscillator) (q : ℕ) (smooth : Bool) → s.modulation ≤ 4
    → ◌≡◌ {A = Ticked} (record { oscillator = o; q8 = centred q smooth }) (finished s o q smooth)
unfolding finished slew slewed
finished-plain s o q smooth h = rw (ne_eqb s.modulation 5 (λ e. absurd (omega arith)), ne_eqb s.modulation 6 (λ e. absurd (omega arith)))

-- ---- the tick by its steps

module _ (s : Setting) (w : List ℕ) (base : ℕ) (t : Target) (o : Oscillator) where
  pub wavetable-is : (phase index tap q8 after : ℕ) (value : ℤ) → s.modulation ≤ 4 → phase ≡ stepped o.phase s.step → index ≡ wave_place s t phase
      → tap ≡ wave_tap s w base index phase → q8 ≡ shaped s t (get_or w base 0) tap → after ≡ cond (synced s t) 0 phase → value ≡ centred q8 s.interpolate
      → ◌≡◌ {A = Ticked} (record { oscillator = set_phase o after; q8 = value }) (wavetable_tick s w base t o)
  unfolding wavetable_at
  wavetable-is phase index tap q8 after value h ep ei et eq ea ev =
      ap (λ (z : ℤ). record { oscillator = set_phase o after; q8 = z }) ev
      ∙ finished-plain s (set_phase o after) q8 s.interpolate h
      ∙ rw (ea, eq, et, ei, ep)

  -- without a target's part
  pub alone_at : looks_at s.modulation ≡ false → (phase : ℕ)
      → wavetable_at s w base t o phase ≡ finished s (set_phase o phase) (wave_tap s w base (wave_index (whole phase) s.mask) phase) s.interpolate
  unfolding wavetable_at
  alone_at e phase =
      let no = unseen s.modulation in
      rw (no 1 e (omega arith) (omega arith), no 2 e (omega arith) (omega arith), no 3 e (omega arith) (omega arith), no 4 e (omega arith) (omega arith))

-- the target then does not matter
pub wavetable-any : (s : Setting) (w : List ℕ) (base : ℕ) → looks_at s.modulation ≡ false → (t u : Target) (o : Oscillator) → wavetable_tick s w base t o ≡ wavetable_tick s w base u o
wavetable-any s w base e t u o = alone_at s w base t o e (stepped o.phase s.step) ∙ sym (alone_at s w base u o e (stepped o.phase s.step))
