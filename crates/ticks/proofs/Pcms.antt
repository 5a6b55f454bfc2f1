-- A PCM voice's tick by its steps, with and without a target. Assumes nothing.
use mathlib.Core.Path.{◌≡◌, ◌∙◌}
use mathlib.Core.Bool.{false}
use mathlib.Core.List.{List}
use Prim.Native.Nat.{ℕ}
use lib.Dec.{eqb}
use lib.ListN.{length}
use Rattle.tone.specs.Pcm.{pcm_address}
use Rattle.registers.specs.declared.PcmRegisters.{PcmRegisters}
use Rattle.ticks.specs.Finish.{finished, position_of}
use Rattle.ticks.specs.Pcm.{pcm_tap, after_pcm, pcm_at, pcm_tick}
use Rattle.ticks.specs.declared.Oscillator.{Oscillator}
use Rattle.ticks.specs.declared.Target.{Target}
use Rattle.ticks.specs.declared.Setting.{Setting}
use Rattle.ticks.specs.declared.Ticked.{Ticked}

module _ (s : Setting) (p : PcmRegisters) (ram : List ℕ) where
  pub pcm-is : (t : Target) (o : Oscillator) (position at tap : ℕ) (f r : Ticked) → position ≡ position_of s t o.phase → at ≡ pcm_address position p.start_addr (length ram)
      → tap ≡ pcm_tap s p ram at o.phase → f ≡ finished s o tap s.interpolate → r ≡ after_pcm s p at f.oscillator f.q8 → r ≡ pcm_tick s p ram t o
  unfolding pcm_at
  pcm-is t o position at tap f r ep ea et ef er = er ∙ rw (ef, et, ea, ep)

  -- without modulation 1 the target does not matter
  pub pcm-any : eqb s.modulation 1 ≡ false → (t u : Target) (o : Oscillator) → pcm_tick s p ram t o ≡ pcm_tick s p ram u o
  pcm-any e t u o = rw e
