-- What a voice's ticks give, from what is said of what they are given. Assumes nothing.
use Rattle.std.proofs.Common.{◌≡◌, ℕ, eqb, List, ℤ, ap, ◌∙◌}
use Rattle.registers.specs.declared.PcmRegisters.{PcmRegisters}
use Rattle.registers.specs.declared.WaveformType.{WaveformType}
use Rattle.ticks.specs.Sounds.{sound_ticks}
use Rattle.ticks.specs.declared.Setting.{Setting}
use Rattle.ticks.specs.declared.Sound.{Sound}
use Rattle.ticks.specs.declared.Target.{Target}
use Rattle.stream.specs.declared.Play.{Play}
use Rattle.voice.specs.Streaming.{Lent, lent, stream_ticks_at}
use Rattle.voice.specs.declared.StreamSound.{StreamSound}

pub sound-is : (n : ℕ) (k : WaveformType) (s s' : Setting) (p : PcmRegisters) (w ram : List ℕ) (ch a a' : ℕ) (t : Target) (v v' r : Sound)
    → s ≡ s' → a ≡ a' → v ≡ v' → r ≡ sound_ticks n k s p w ram ch (eqb a ch) t v → r ≡ sound_ticks n k s' p w ram ch (eqb a' ch) t v'
sound-is n k s s' p w ram ch a a' t v v' r es ea ev e =
    e ∙ ap (λ (x : Setting). sound_ticks n k x p w ram ch (eqb a ch) t v) es ∙ ap (λ (x : ℕ). sound_ticks n k s' p w ram ch (eqb x ch) t v) ea ∙ ap (sound_ticks n k s' p w ram ch (eqb a' ch) t) ev

pub stream-is : (base n : ℕ) (ram : List ℕ) (p p' : Play) (volume panpot : ℕ) (v v' : StreamSound) (samples : List ℤ) (r : Lent)
    → p ≡ p' → v ≡ v' → r ≡ stream_ticks_at base n ram p volume panpot (lent v samples) → r ≡ stream_ticks_at base n ram p' volume panpot (lent v' samples)
stream-is base n ram p p' volume panpot v v' samples r ep ev e =
    e ∙ ap (λ (x : Play). stream_ticks_at base n ram x volume panpot (lent v samples)) ep ∙ ap (λ (x : StreamSound). stream_ticks_at base n ram p' volume panpot (lent x samples)) ev
