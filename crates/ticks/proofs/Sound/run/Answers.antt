use borrow.Author.Tests.{ne_eqb}
use mathlib.Core.Path.{◌≡◌, refl, sym, ap, ◌∙◌}
use mathlib.Core.Bool.{false}
use Prim.Native.Nat.{ℕ, ◌*◌, ◌%◌, ◌≤◌}
use native.Mathlib.Omega.{arith}
use lib.Bits.{bit_and, and_mask, and_le_r}
use Rattle.registers.specs.declared.WaveformType.{WaveformType}
use Rattle.registers.specs.declared.WaveformType.TheVariants.{Wavetable, Pcm, Noise, DmaPcm}
use Rattle.ticks.specs.Oscillators.{no_target}
use Rattle.ticks.specs.Wavetable.{wavetable_tick}
use Rattle.ticks.specs.Pcm.{pcm_tick}
use Rattle.ticks.specs.Sounds.{noise_of, dma_of, ticks_of, sound_ticks}
use Rattle.ticks.specs.declared.Sound.{Sound}
use Rattle.ticks.proofs.Waves.{looks, wavetable-any}
use Rattle.ticks.proofs.Pcms.{pcm-any}
use Rattle.ticks.proofs.Voices.{ticks-any}
use Rattle.std.proofs.Common.{rules}
use Rattle.ticks.proofs.Sound.run.Goals as goal

-- the ticks of a waveform, and of the voice's own
told : (given : WaveformType → Sound) (own k : WaveformType) {r : Sound} → own ≡ k → r ≡ given k → r ≡ given own
told given own k e f = f ∙ sym (ap given e)

base-is : (ch : ℕ) → bit_and ch 7 * 256 ≡ ch % 8 * 256
base-is ch = ap (λ (x : ℕ). x * 256) (and_mask ch 3)

base-fits : (ch : ℕ) → bit_and ch 7 * 256 ≤ 1792
base-fits ch = omega (arith, and_le_r ch 7)

pub modulated-requires : goal.modulated-requires
modulated-requires c =
    let a = c.args in
    let fits = base-fits a.ch in
    let low = looks a.s.modulation (sym c.looks_at.ensures ∙ c.if-looks_at.true) in
    search rules

pub returns-then-looks_at : goal.returns-then-looks_at
returns-then-looks_at c =
    let a = c.args in
    told (λ (k : WaveformType). sound_ticks a.n k a.s a.p a.wavetables.now a.ram.now a.ch a.own a.t a.self) _ Wavetable c.in-Wavetable.is
    (c.modulated.ensures (wavetable_tick a.s a.wavetables.now _) (λ o u r is. search rules)
    ∙ ap (λ (b : ℕ). ticks_of a.n (wavetable_tick a.s a.wavetables.now b) a.s a.own a.t a.self) (base-is a.ch))

pub returns-else-looks_at : goal.returns-else-looks_at
returns-else-looks_at c =
    let a = c.args in
    told (λ (k : WaveformType). sound_ticks a.n k a.s a.p a.wavetables.now a.ram.now a.ch a.own a.t a.self) _ Wavetable c.in-Wavetable.is
    (c.ticked.ensures (wavetable_tick a.s a.wavetables.now _) no_target (λ o r is. search rules)
    ∙ ap (λ (b : ℕ). ticks_of a.n (wavetable_tick a.s a.wavetables.now b) a.s false no_target a.self) (base-is a.ch)
    ∙ ticks-any (wavetable_tick a.s a.wavetables.now (a.ch % 8 * 256)) a.s (wavetable-any a.s a.wavetables.now (a.ch % 8 * 256) (sym c.looks_at.ensures ∙ c.if-looks_at.false)) a.n a.own a.t no_target a.self)

pub returns-else-s-eq1 : goal.returns-else-s-eq1
returns-else-s-eq1 c =
    let a = c.args in
    told (λ (k : WaveformType). sound_ticks a.n k a.s a.p a.wavetables.now a.ram.now a.ch a.own a.t a.self) _ Pcm c.in-Pcm.is
    (rw (ne_eqb _ 0 c.if-ram-eq0.false)
    (c.ticked-in-Pcm.ensures (pcm_tick a.s a.p a.ram.now) no_target (λ o r is. search rules)
    ∙ ticks-any (pcm_tick a.s a.p a.ram.now) a.s (pcm-any a.s a.p a.ram.now (ne_eqb _ 1 c.if-s-eq1.false)) a.n a.own a.t no_target a.self))

pub returns-in-Noise : goal.returns-in-Noise
returns-in-Noise c =
    let a = c.args in
    told (λ (k : WaveformType). sound_ticks a.n k a.s a.p a.wavetables.now a.ram.now a.ch a.own a.t a.self) _ Noise c.in-Noise.is
    (c.ticked-in-Noise.ensures (noise_of a.s) no_target (λ o r is. search rules) ∙ ticks-any (noise_of a.s) a.s (λ t u o. refl) a.n a.own a.t no_target a.self)

pub returns-in-DmaPcm : goal.returns-in-DmaPcm
returns-in-DmaPcm c =
    let a = c.args in
    told (λ (k : WaveformType). sound_ticks a.n k a.s a.p a.wavetables.now a.ram.now a.ch a.own a.t a.self) _ DmaPcm c.in-DmaPcm.is
    (c.ticked-in-DmaPcm.ensures dma_of no_target (λ o r is. search rules) ∙ ticks-any dma_of a.s (λ t u o. refl) a.n a.own a.t no_target a.self)
