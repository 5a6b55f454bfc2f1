-- A voice line written, and what reading one does.
use Rattle.std.specs.Prelude.{Bool, true, false, cond, List, [], ◌∷◌, ℕ, ltb, ℤ, Result, Ok, Err}
use Rattle.std.proofs.lemmas.List.Edits.{sets}
use Rattle.cores.specs.Sizes.{chip_voices}
use Rattle.line_fields.specs.Text.{line_text}
use Rattle.line_fields.specs.Reading.{ReadLine, line, read_line}
use Rattle.line_fields.specs.Reading as lines
use Rattle.version.specs.Versions.{has3ws8pna}
use Rattle.version.specs.declared.SguVersion.{SguVersion}
use Rattle.registers.specs.Queue.{allows_fifo, kept_fifo}
use Rattle.registers.specs.declared.Fifo.{Fifo}
use Rattle.stream.specs.Cache.{emptied}
use Rattle.voice.specs.Channel.{set_fifo, set_stream}
use Rattle.voice.specs.declared.Channel.{Channel}
use Rattle.line_fields.specs.declared.FieldError.{FieldError}
use Rattle.line_fields.specs.declared.FieldError.TheVariants as fault
use Rattle.session_lines.specs.declared.VoiceError.{VoiceError}
use Rattle.session_lines.specs.declared.VoiceError.TheVariants as told
use Rattle.session_lines.specs.Numbers.{at, field_numbers, queued_of, fifo_of, channel_from, table_of, queued_samples}

-- a voice with its own wavetable and its queue as a list: what a line tells of
pub record NumberedVoice : Type 0 where
  pub number : ℕ
  pub channel : Channel
  pub wavetable : List ℕ
  pub samples : List ℤ

-- ---- written

-- the line of a voice, whose queue's entries are q; no voice above 15 has one
unfoldable pub voice_text : ℕ → Channel → List ℕ → List ℤ → List ℕ
voice_text voice c wavetable q = cond (ltb voice chip_voices) (line_text (field_numbers voice c wavetable q)) []

-- what the line tells of it: without the cache, and with the queue's head at 0
abbrev pub at_start : Fifo → Fifo
at_start f = record { head = 0; count = f.count; held = f.held; hold = f.hold; sub = f.sub; latch = f.latch }

abbrev pub session_of : ℕ → Channel → List ℕ → List ℤ → NumberedVoice
session_of voice c wavetable q =
    record { number = voice; channel = set_stream (set_fifo c (at_start c.fifo)) emptied; wavetable = wavetable; samples = queued_of c.fifo q }

-- ---- read

pub data ReadVoice : Type 0 where
  voice : NumberedVoice → ReadVoice
  malformed : ℕ → ReadVoice
  -- a voice with something in its queue, on a chip without a FIFO
  queued : ReadVoice

-- the voice of a line's numbers, with a queue
unfoldable pub voice_of : (ℕ → ℕ) → Fifo → NumberedVoice
voice_of f queue = record { number = f 0; channel = channel_from f queue; wavetable = table_of f; samples = queued_samples f queue.count }

-- the queue that the numbers tell; of a stored line what the version keeps of it
unfoldable pub queue_told : Bool → SguVersion → (ℕ → ℕ) → Fifo
queue_told stored version f = cond stored (kept_fifo version (fifo_of f)) (fifo_of f)

abbrev pub voice_taken : SguVersion → (ℕ → ℕ) → Fifo → ReadVoice
voice_taken version f queue = cond (allows_fifo version queue) (voice (voice_of f queue)) queued

-- the voice that a line's numbers tell
abbrev pub voice_in : Bool → SguVersion → List ℕ → ReadVoice
voice_in stored version ns = voice_taken version (at ns) (queue_told stored version (at ns))

abbrev pub voice_from : Bool → SguVersion → ReadLine → ReadVoice
voice_from stored version (line ns) = voice_in stored version ns
voice_from stored version (lines.malformed ns field) = malformed field

-- a line read, as a stored one or as any
unfoldable pub read_as : Bool → SguVersion → List ℕ → ReadVoice
read_as stored version text = voice_from stored version (read_line (has3ws8pna version) text)

abbrev pub read_voice : SguVersion → List ℕ → ReadVoice
read_voice version text = read_as false version text

abbrev pub read_stored : SguVersion → List ℕ → ReadVoice
read_stored version text = read_as true version text

-- the number of the voice that a line tells of, or what refuses it
abbrev pub VoiceLine : Type 0
VoiceLine = Result ℕ VoiceError

-- a field at fault refuses the voice
abbrev pub refused_voice : FieldError → VoiceError
refused_voice (fault.Malformed field) = told.Malformed field

-- what the voice's number, channel, wavetable and queue entries are then
abbrev pub told_of : ReadVoice → VoiceLine
told_of (voice v) = Ok v.number
told_of (malformed field) = Err (told.Malformed field)
told_of queued = Err told.Queued

abbrev pub channel_after : ReadVoice → Channel → Channel
channel_after (voice v) c = v.channel
channel_after (malformed field) c = c
channel_after queued c = c

abbrev pub table_after : ReadVoice → List ℕ → List ℕ
table_after (voice v) wavetable = sets wavetable 0 v.wavetable
table_after (malformed field) wavetable = wavetable
table_after queued wavetable = wavetable

abbrev pub queue_after : ReadVoice → List ℤ → List ℤ
queue_after (voice v) q = sets q 0 v.samples
queue_after (malformed field) q = q
queue_after queued q = q

-- the number of an answer in documents 01 and 02, and the field at fault
abbrev pub voice_line_number : VoiceLine → List ℕ
voice_line_number (Ok n) = []
voice_line_number (Err (told.Malformed field)) = 16 ∷ field ∷ []
voice_line_number (Err told.Queued) = 23 ∷ []

-- of a line that was read
unfoldable pub voice_refusal : ReadVoice → List ℕ
voice_refusal (voice v) = []
voice_refusal (malformed field) = 16 ∷ field ∷ []
voice_refusal queued = 23 ∷ []
