-- What a chip asks of its voices, and the plain chip's. The chip's own (crate slots) are another model.
use Rattle.std.specs.Prelude.{List, ℕ}
use Rattle.version.specs.declared.SguVersion.{SguVersion}
use Rattle.ticks.specs.declared.Sides.{Sides}
use Rattle.ticks.specs.declared.Target.{Target}
use Rattle.plain_chip.specs.Voices.{PlainVoice, fresh_voice, plain_write_control, plain_write_pcm, plain_write_wave, plain_after_read, plain_set_version}
use Rattle.plain_chip.specs.Ticks.{VoiceTick, plain_voice_tick}

pub record Model (A : Type 0) : Type 0 where
  -- what stands for a voice that is not there
  pub absent : A
  -- what is seen of a voice: the session's fields
  pub session : A → PlainVoice
  -- what changes it: fields that are read from a session, and calls; `poked` is a byte written to the RAM
  pub load : PlainVoice → A → A
  pub reset : A → A
  pub set_version : SguVersion → A → A
  pub write_control : SguVersion → ℕ → ℕ → A → A
  pub write_pcm : ℕ → ℕ → A → A
  pub write_wave : ℕ → ℕ → A → A
  pub after_read : ℕ → A → A
  pub poked : ℕ → A → A
  pub tick : SguVersion → List ℕ → Target → Sides → A → VoiceTick A

-- a RAM write changes nothing of a plain voice, since it has no cache
abbrev pub plains : Model PlainVoice
plains = record {
  absent = fresh_voice;
  session = λ v. v;
  load = λ fields v. fields;
  reset = λ v. fresh_voice;
  set_version = plain_set_version;
  write_control = plain_write_control;
  write_pcm = plain_write_pcm;
  write_wave = plain_write_wave;
  after_read = plain_after_read;
  poked = λ address v. v;
  tick = plain_voice_tick;
}
