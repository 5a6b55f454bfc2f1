use mathlib.Core.Path.{◌≡◌, ap, ◌∙◌}
use Prim.Native.Nat.{ℕ, ◌/◌}
use lib.Dec.{eqb}
use borrow.Author.Tests.{eq-eqb, ne_eqb}
use Rattle.tone.specs.Phase.{whole, stepped}
use Rattle.tone.specs.Noise.{next_lfsr}
use Rattle.ticks.specs.Oscillators.{set_phase, set_shift}
use Rattle.ticks.specs.Noise.{shifted_noise}
use Rattle.ticks.specs.declared.Oscillator.{Oscillator}
use Rattle.ticks.specs.declared.Setting.{Setting}
use Rattle.ticks.proofs.Oscillator.shift.Goals as goal

module _ (s : Setting) (o : Oscillator) (phase : ℕ) where
  stands : phase ≡ stepped o.phase s.step → o.old_phase / 8 ≡ whole phase / 8 → set_phase o phase ≡ shifted_noise s o
  unfolding shifted_noise
  stands e f = rw (← e, eq-eqb _ _ f)

  shifts : (position lfsr : ℕ) → phase ≡ stepped o.phase s.step → position ≡ whole phase → (o.old_phase / 8 ≡ position / 8 → ⊥)
      → lfsr ≡ next_lfsr o.lfsr_state (eqb s.modulation 1) s.param_1 s.param_2 → set_shift o phase position lfsr ≡ shifted_noise s o
  unfolding shifted_noise
  shifts position lfsr e w f l = rw (← e, ← w, ne_eqb _ _ f, l)

pub returns-then-old-position : goal.returns-then-old-position
returns-then-old-position c =
    let a = c.args in
    stands a.s a.self _ c.stepped-phase.ensures (c.if-old-position.true ∙ ap (λ (x : ℕ). x / 8) c.whole-position.ensures.result)

pub returns : goal.returns
returns c =
    let a = c.args in
    shifts a.s a.self _ _ _ c.stepped-phase.ensures c.whole-position.ensures.result c.if-old-position.false c.next_lfsr.ensures
