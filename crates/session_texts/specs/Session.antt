-- A session's lines over the fields of plain voices.
use Rattle.std.specs.Prelude.{List, ℕ, Ok, Err}
use Rattle.session_lines.specs.Head as heads
use Rattle.session_lines.specs.Lines.{NumberedVoice, voice_text, ReadVoice, voice, malformed, queued, read_voice, read_stored}
use Rattle.plain_chip.specs.Voices.{PlainVoice}
use Rattle.slots.specs.Slots.{channel_with}
use Rattle.call_lists.specs.Texts as texts
use Rattle.call_lists.specs.Texts.{Texts, VoiceRead, HeadRead}
use Rattle.session_lines.specs.Head.{HeadLine}
use Rattle.session_lines.specs.declared.SessionHead.TheVariants.{Version, Sized}
use Rattle.line_fields.specs.declared.FieldError.TheVariants.{Malformed}

-- the fields that a line tells
abbrev pub plain_voice_of : NumberedVoice → PlainVoice
plain_voice_of v = record {
  registers = v.channel.registers;
  pcm = v.channel.pcm;
  oscillator = v.channel.oscillator;
  queue = record { samples = v.samples; held = v.channel.fifo.held; hold = v.channel.fifo.hold; sub = v.channel.fifo.sub; latch = v.channel.fifo.latch };
  wavetable = v.wavetable;
}

-- the line of a voice with these fields
abbrev pub plain_text : ℕ → PlainVoice → List ℕ
plain_text n v = voice_text n (channel_with v) v.wavetable v.queue.samples

abbrev pub voice_read : ReadVoice → VoiceRead
voice_read (voice v) = texts.voice v.number (plain_voice_of v)
voice_read (malformed field) = VoiceRead.faulty field
voice_read queued = VoiceRead.queued

abbrev pub head_read : HeadLine → HeadRead
head_read (Ok (Version version)) = texts.head version
head_read (Ok (Sized version size)) = texts.sized version size
head_read (Err (Malformed field)) = HeadRead.faulty field

abbrev pub session : Texts
session = record {
  head_text = heads.head_text;
  read_head = λ text. head_read (heads.read_head text);
  voice_text = plain_text;
  read_voice = λ version text. voice_read (read_voice version text);
  read_stored = λ version text. voice_read (read_stored version text);
}
