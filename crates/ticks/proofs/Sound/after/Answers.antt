use mathlib.Core.Path.{◌≡◌, ◌∙◌}
use native.Mathlib.Omega.{arith}
use lib.IntN.{ℤ}
use mir.Syntax.{w16}
use mir.Val.{SFits}
use Rattle.num.proofs.Integers.{back}
use Rattle.tone.specs.Mix.{last_sample_of, volume_of}
use Rattle.ticks.specs.Oscillators.{set_last}
use Rattle.ticks.specs.Mix.{heard, sound_after}
use Rattle.ticks.specs.declared.Setting.{Setting}
use Rattle.ticks.specs.declared.Ticked.{Ticked}
use Rattle.ticks.specs.declared.Sides.{Sides}
use Rattle.ticks.specs.declared.Sound.{Sound}
use Rattle.ticks.proofs.Sound.after.Goals as goal

after_is : (s : Setting) (v : Sides) (r : Ticked) (last : ℤ) (sides : Sides) → last ≡ last_sample_of r.q8 → sides ≡ heard v (volume_of r.q8 s.volume) s.panpot
    → ◌≡◌ {A = Sound} (record { oscillator = set_last r.oscillator last; sides = sides }) (sound_after s v r)
unfolding sound_after
after_is s v r last sides el es = rw (el, es)

pub returns : goal.returns
returns c =
    let a = c.args in
    let q : SFits w16 a.r.q8 = record { sfits = omega arith } in
    let l : SFits w16 c.last_sample.result = record { sfits = c.last_sample.type_inv } in
    after_is a.s a.self.sides a.r _ _ (back w16 _ l ∙ (rw (back w16 _ q) at c.last_sample.ensures)) (rw (back w16 _ q) at c.with_value-sides.ensures)
