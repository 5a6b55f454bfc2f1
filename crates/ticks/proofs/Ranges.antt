-- A tick keeps an accepted oscillator accepted and each part in its range, and its value has 16 bits. Assumes nothing.
use mathlib.Core.Path.{◌≡◌}
use mathlib.Core.Bool.{Bool, true, false, cond}
use mathlib.Core.List.{List}
use Prim.Native.Nat.{ℕ, ◌+◌, ◌≤◌, ◌<◌, ◌/◌, ◌^◌}
use native.Mathlib.Omega.{arith}
use lib.Dec.{eqb, leb, ltb}
use lib.IntN.{pos}
use lib.ListN.{length, get_or}
use lib.Signed.{lt_z}
use mir.Syntax.{w16}
use mir.Val.{SFits}
use borrow.Author.Tests.{leb-true, ltb-true, le-leb, lt-ltb}
use Rattle.num.proofs.Choice.{cond-by, both, together}
use Rattle.num.proofs.Integers.{fit}
use Rattle.tone.specs.Phase.{whole, fraction, stepped}
use Rattle.tone.specs.Taps.{wave_after, blend, raised}
use Rattle.tone.specs.Shape.{ring, window, slewed}
use Rattle.tone.specs.Noise.{noise_value}
use Rattle.tone.specs.Pcm.{pcm_address, pcm_next, pcm_is_over}
use Rattle.tone.specs.Mix.{last_sample_of}
use Rattle.tone.proofs.Ranges.{blend-range, ring-range, slew-range, centred-fits, last_fits, lfsr-range, phase-range}
use Rattle.registers.specs.declared.PcmRegisters.{PcmRegisters}
use Rattle.ticks.specs.Oscillators.{default_oscillator, accepts_oscillator, AcceptedOscillator, FitOscillator, set_phase, set_last}
use Rattle.ticks.specs.Finish.{slew_after, finished, position_of}
use Rattle.ticks.specs.Wavetable.{wave_place, wave_tap, synced, shaped, wavetable_at, wavetable_tick}
use Rattle.ticks.specs.Pcm.{pcm_tap, after_pcm, pcm_at, pcm_tick}
use Rattle.ticks.specs.Noise.{shifted_noise, noise_tick, dma_tick}
use Rattle.ticks.specs.declared.Oscillator.{Oscillator}
use Rattle.ticks.specs.declared.Target.{Target}
use Rattle.ticks.specs.declared.Setting.{Setting}
use Rattle.ticks.specs.declared.Ticked.{Ticked}

-- ---- accepted oscillators

module _ (o : Oscillator) where
  pub accepted-oscillator : accepts_oscillator o ≡ true → AcceptedOscillator o
  unfolding accepts_oscillator
  accepted-oscillator e =
      let a = both (leb o.slew_current 65280) (ltb o.old_phase (2 ^ 35)) e in
      record { slew = leb-true _ _ a.0; old = ltb-true _ _ a.1 }

  pub oscillator-accepted : AcceptedOscillator o → accepts_oscillator o ≡ true
  unfolding accepts_oscillator
  oscillator-accepted a = together _ _ (le-leb _ _ a.slew) (lt-ltb _ _ a.old)

pub default-accepted : AcceptedOscillator default_oscillator
default-accepted = record { slew = omega arith; old = omega arith }

pub default-fits : FitOscillator default_oscillator
default-fits = record { phase = omega arith; lfsr = omega arith; last = fit w16 _ (omega arith) (omega arith) }

-- ---- ticks

-- an oscillator that is accepted and in range
pub record Good (o : Oscillator) : Type 0 where
  pub accepted : AcceptedOscillator o
  pub fits : FitOscillator o

pub record GoodTick (r : Ticked) : Type 0 where
  pub oscillator : Good r.oscillator
  pub value : SFits w16 r.q8

with-phase : (o : Oscillator) (x : ℕ) → x < 2 ^ 64 → Good o → Good (set_phase o x)
with-phase o x h g = record {
  accepted = record { slew = g.accepted.slew; old = g.accepted.old };
  fits = record { phase = h; lfsr = g.fits.lfsr; last = g.fits.last };
}

pub with-last : (r : Ticked) → GoodTick r → Good (set_last r.oscillator (last_sample_of r.q8))
with-last r g = record {
  accepted = record { slew = g.oscillator.accepted.slew; old = g.oscillator.accepted.old };
  fits = record { phase = g.oscillator.fits.phase; lfsr = g.oscillator.fits.lfsr; last = last_fits r.q8 g.value };
}

finished-good : (s : Setting) (o : Oscillator) (q : ℕ) (smooth : Bool) → q ≤ 65280 → Good o → GoodTick (finished s o q smooth)
unfolding finished slewed
finished-good s o q smooth h g =
    let r : slew_after s o q ≤ 65280 = slew-range s.modulation o.slew_current q s.param_1 g.accepted.slew in
    record {
      oscillator = record {
        accepted = record { slew = r; old = g.accepted.old };
        fits = record { phase = g.fits.phase; lfsr = g.fits.lfsr; last = g.fits.last };
      };
      value = centred-fits _ smooth
          (cond-by (λ (x : ℕ). x < 65536) (eqb s.modulation 5) (slew_after s o q) (cond (eqb s.modulation 6) (slew_after s o q) q) (λ e. omega arith)
          (λ e. cond-by (λ (x : ℕ). x < 65536) (eqb s.modulation 6) (slew_after s o q) q (λ f. omega arith) (λ f. omega arith)));
    }

-- a byte, or two of them blended
tap-range : (smooth : Bool) (a b f : ℕ) → a < 256 → b < 256 → f < 256 → cond smooth (blend a b f) (raised a) ≤ 65280
tap-range true a b f h k l = blend-range a b f (omega arith) (omega arith) (omega arith)
tap-range false a b f h k l = omega arith

shaped-range : (s : Setting) (t : Target) (first q : ℕ) → first < 256 → q ≤ 65280 → shaped s t first q ≤ 65280
shaped-range s t first q h k =
    cond-by small (eqb s.modulation 2) (ring q t.last_sample s.param_1 s.interpolate) (cond (synced s t) (raised first) windowed) (λ e. ring-range q t.last_sample s.param_1 s.interpolate)
    (λ e. cond-by small (synced s t) (raised first) windowed (λ f. omega arith)
    (λ f. cond-by small (eqb s.modulation 4) (window q t.last_sample) q
    (λ i. cond-by small (lt_z t.last_sample (pos 0)) 32768 q (λ j. omega arith) (λ j. k)) (λ i. k)))
  where
    small : ℕ → Type 0
    small x = x ≤ 65280

    windowed : ℕ
    windowed = cond (eqb s.modulation 4) (window q t.last_sample) q

fraction-range : (phase : ℕ) → fraction phase < 256
fraction-range phase = omega arith

pub wavetable-good : (s : Setting) (w : List ℕ) (base : ℕ) (t : Target) (o : Oscillator) → ((i : ℕ) → get_or w i 0 < 256) → Good o → GoodTick (wavetable_tick s w base t o)
unfolding wavetable_at
wavetable-good s w base t o bytes g =
    finished-good s _ _ s.interpolate
    (shaped-range s t (get_or w base 0) (wave_tap s w base (wave_place s t phase) phase) (bytes base)
    (tap-range s.interpolate (get_or w (base + wave_place s t phase) 0) (get_or w (base + wave_after (wave_place s t phase) s.mask) 0) (fraction phase) (bytes _) (bytes _) (fraction-range phase)))
    (with-phase o _ (cond-by (λ (x : ℕ). x < 2 ^ 64) (synced s t) 0 phase (λ e. omega arith) (λ e. omega arith)) g)
  where
    phase : ℕ
    phase = stepped o.phase s.step

pub pcm-good : (s : Setting) (p : PcmRegisters) (ram : List ℕ) (t : Target) (o : Oscillator) → ((i : ℕ) → get_or ram i 0 < 256) → p.end_addr < 2 ^ 32 → p.loop_addr < 2 ^ 32
    → Good o → GoodTick (pcm_tick s p ram t o)
unfolding pcm_at after_pcm
pcm-good s p ram t o bytes h k g =
    let at : ℕ = pcm_address (position_of s t o.phase) p.start_addr (length ram) in
    let f = finished-good s o (pcm_tap s p ram at o.phase) s.interpolate
    (tap-range s.interpolate (get_or ram at 0) (get_or ram (pcm_next at p.end_addr p.loop_addr p.control (length ram)) 0) (fraction o.phase) (bytes _) (bytes _) (fraction-range o.phase)) g in
    record {
      oscillator = with-phase _ _ (phase-range _ at p.start_addr p.end_addr p.loop_addr p.control s.step h k) f.oscillator;
      value = cond-by (SFits w16) (pcm_is_over at p.end_addr p.control) (pos 0) _ (λ e. fit w16 _ (omega arith) (omega arith)) (λ e. f.value);
    }

shifted-good : (s : Setting) (o : Oscillator) → Good o → Good (shifted_noise s o)
unfolding shifted_noise
shifted-good s o g =
    cond-by Good (eqb (o.old_phase / 8) (whole phase / 8)) (set_phase o phase) _ (λ e. with-phase o phase (omega arith) g)
    (λ e. record {
      accepted = record { slew = g.accepted.slew; old = omega arith };
      fits = record { phase = omega arith; lfsr = lfsr-range o.lfsr_state (eqb s.modulation 1) s.param_1 s.param_2 g.fits.lfsr; last = g.fits.last };
    })
  where
    phase : ℕ
    phase = stepped o.phase s.step

pub noise-good : (s : Setting) (o : Oscillator) → Good o → GoodTick (noise_tick s o)
unfolding noise_tick
noise-good s o g = finished-good s (shifted_noise s o) (noise_value (shifted_noise s o).lfsr_state) false (omega arith) (shifted-good s o g)

pub dma-good : (o : Oscillator) → Good o → GoodTick (dma_tick o)
dma-good o g = record { oscillator = g; value = fit w16 _ (omega arith) (omega arith) }
