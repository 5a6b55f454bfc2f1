-- What the session text asks of its lines: a head and a voice line written, and read.
use Rattle.std.specs.Prelude.{◌≡◌, true, List, ℕ, ◌<◌}
use Rattle.cores.specs.Sizes.{chip_voices}
use Rattle.tone.specs.Pcm.{is_ram_length}
use Rattle.version.specs.declared.SguVersion.{SguVersion}
use Rattle.plain_chip.specs.Voices.{PlainVoice}
use Rattle.plain_chip.specs.Good.{FitVoice}

-- the voice that a line names and its fields, or the first field at fault, or that something is in the queue of a chip without a FIFO
pub data VoiceRead : Type 0 where
  voice : ℕ → PlainVoice → VoiceRead
  faulty : ℕ → VoiceRead
  queued : VoiceRead

-- the version that a head names, and the length of the RAM if it tells it
pub data HeadRead : Type 0 where
  head : SguVersion → HeadRead
  sized : SguVersion → ℕ → HeadRead
  faulty : ℕ → HeadRead

pub record Texts : Type 0 where
  -- of a chip over a RAM of some length
  pub head_text : SguVersion → ℕ → List ℕ
  pub read_head : List ℕ → HeadRead
  -- the line of a voice; empty above 15
  pub voice_text : ℕ → PlainVoice → List ℕ
  pub read_voice : SguVersion → List ℕ → VoiceRead
  -- of a stored line a chip without a FIFO drops what is in the queue
  pub read_stored : SguVersion → List ℕ → VoiceRead

-- what is read is one of the sixteen voices, its fields in their ranges
abbrev pub Told : SguVersion → VoiceRead → Type 0
Told version (voice n v) = (n < chip_voices) × FitVoice version v
Told version (faulty field) = Unit {0}
Told version queued = Unit {0}

-- what is written is read back
pub record TextsOk (t : Texts) : Type 0 where
  pub head-back : (version : SguVersion) (size : ℕ) → is_ram_length size ≡ true → t.read_head (t.head_text version size) ≡ sized version size
  pub told : (version : SguVersion) (text : List ℕ) → Told version (t.read_voice version text)
  pub stored-told : (version : SguVersion) (text : List ℕ) → Told version (t.read_stored version text)
  pub voice-back : (version : SguVersion) (n : ℕ) (v : PlainVoice) → n < chip_voices → FitVoice version v → t.read_voice version (t.voice_text n v) ≡ voice n v
