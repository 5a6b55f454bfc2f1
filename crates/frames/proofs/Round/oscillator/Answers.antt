use Rattle.std.proofs.Common.{length, sym, subst, arith}
use Rattle.ticks.specs.declared.Sound.{Sound}
use Rattle.voice.specs.Sounding.{after_sound}
use Rattle.voice.proofs.Calls.{sound-is}
use Rattle.frames.specs.Kept.{Kept}
use Rattle.frames.proofs.Fits.{fit-channel}
use Rattle.frames.proofs.Keeping.{sound-kept}
use Rattle.frames.proofs.Round.oscillator.Goals as goal

pub returns-clause-keeps : goal.returns-clause-keeps
returns-clause-keeps c =
    let a = c.args in
    let e = sound-is a.n a.c.registers.waveform_type _ _ a.c.pcm a.wavetables.now a.ram.now a.ch _ _ a.t _ _ _ c.setting-s.ensures c.target_channel.ensures.0 c.sound.ensures c.run.ensures in (λ accepted. subst (λ (v : Sound). Kept a.self.version (length a.ram.now) a.n (after_sound a.c v) v.sides) (sym e)
    (sound-kept a.c a.self.version a.ram.now a.n (omega arith) accepted (fit-channel a.c c.well_formed.1.0.1.1) a.wavetables.now a.ch _ a.t c.requires.fact_2 (λ i. (c.type_inv.ram i).fits)))
