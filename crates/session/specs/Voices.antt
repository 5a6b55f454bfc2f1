-- A voice line written, and read.
use Rattle.std.specs.Prelude.{Ok, Err, Bool, true, false, List, ℕ, ◌*◌, ◌/◌, ◌%◌, ℤ}
use Rattle.std.proofs.lemmas.List.Edits.{sets}
use Rattle.sizes.specs.Sizes.{fifo_capacity, num_channels}
use Rattle.num.specs.Lists.{part}
use Rattle.line_fields.specs.Text.{written_of, put_of}
use Rattle.session_lines.specs.Lines.{voice_text, ReadVoice, malformed, queued, read_as, channel_after, table_after, queue_after}
use Rattle.session_lines.specs.Lines as lines
use Rattle.voices.specs.Core.{channel_at, set_channel, set_wavetables}
use Rattle.voices.specs.Own.{queue_at}
use Rattle.voices.specs.declared.Core.{Core}
use Rattle.s3w2.specs.Chips.{core_at, with_core_at}
use Rattle.s3w2.specs.declared.Chip.{Chip}
use Rattle.s3w2.specs.declared.Refusal.TheVariants.{QueueBuffer, NotAccepted}
use Rattle.session.specs.declared.LineRefusal.TheVariants.{OfChip, Malformed, Queued}
use Rattle.session.specs.declared.LineCalled.{LineCalled}
use Rattle.session.specs.Answers.{LineAnswer, line_answered, wrote, with_lent_queues}

-- voice v is channel v % 8 of core v / 8
abbrev pub core_of : Chip → ℕ → Core
core_of chip voice = core_at chip (voice / num_channels)

-- a channel's own wavetable
abbrev pub table_at : Core → ℕ → List ℕ
table_at k ch = part k.wavetables (ch * 256) 256

-- ---- written

-- the line of a voice; none above 15 has one
unfoldable pub line_of_voice : Chip → List ℤ → ℕ → List ℕ
line_of_voice chip queues voice =
    voice_text voice (channel_at (core_of chip voice) (voice % num_channels)) (table_at (core_of chip voice) (voice % num_channels)) (queue_at queues voice)

unfoldable pub write_voice_answer : Chip → List ℤ → ℕ → List ℕ → LineAnswer ℕ
write_voice_answer chip queues voice out = with_lent_queues chip queues (wrote (written_of out (line_of_voice chip queues voice))) (Err (OfChip NotAccepted)) (Err (OfChip QueueBuffer))

unfoldable pub write_voice_text : Chip → List ℤ → ℕ → List ℕ → List ℕ
write_voice_text chip queues voice out = with_lent_queues chip queues (put_of out (line_of_voice chip queues voice)) out out

-- ---- read

-- after a line was read: the channel, the wavetable and the queue entries of its voice; the fragments stay, the cache is empty
unfoldable pub loaded_core : Core → ℕ → ReadVoice → Core
loaded_core k ch r = set_wavetables (set_channel k ch (channel_after r (channel_at k ch))) (sets k.wavetables (ch * 256) (table_after r (table_at k ch)))

abbrev pub loaded_chip : Chip → ℕ → ReadVoice → Chip
loaded_chip chip voice r = with_core_at chip (voice / num_channels) (loaded_core (core_of chip voice) (voice % num_channels) r)

unfoldable pub loaded_queues : List ℤ → ℕ → ReadVoice → List ℤ
loaded_queues queues voice r = sets queues (voice * fifo_capacity) (queue_after r (queue_at queues voice))

-- a line sets the voice that it names; one that tells of none changes nothing
abbrev pub voice_called : Chip → ReadVoice → LineCalled
voice_called chip (lines.voice v) = line_answered (loaded_chip chip v.number (lines.voice v)) (Ok tt)
voice_called chip (malformed field) = line_answered chip (Err (Malformed field))
voice_called chip queued = line_answered chip (Err Queued)

abbrev pub voice_queues : List ℤ → ReadVoice → List ℤ
voice_queues queues (lines.voice v) = loaded_queues queues v.number (lines.voice v)
voice_queues queues (malformed field) = queues
voice_queues queues queued = queues

-- as a stored line or as any
unfoldable pub voice_read_called : Bool → Chip → List ℤ → List ℕ → LineCalled
voice_read_called stored chip queues text =
    with_lent_queues chip queues (voice_called chip (read_as stored chip.version text)) (line_answered chip (Err (OfChip NotAccepted))) (line_answered chip (Err (OfChip QueueBuffer)))

unfoldable pub voice_read_queues : Bool → Chip → List ℤ → List ℕ → List ℤ
voice_read_queues stored chip queues text = with_lent_queues chip queues (voice_queues queues (read_as stored chip.version text)) queues queues

abbrev pub read_voice_called : Chip → List ℤ → List ℕ → LineCalled
read_voice_called chip queues text = voice_read_called false chip queues text

abbrev pub read_voice_queues : Chip → List ℤ → List ℕ → List ℤ
read_voice_queues chip queues text = voice_read_queues false chip queues text

abbrev pub read_stored_voice_called : Chip → List ℤ → List ℕ → LineCalled
read_stored_voice_called chip queues text = voice_read_called true chip queues text

abbrev pub read_stored_voice_queues : Chip → List ℤ → List ℕ → List ℤ
read_stored_voice_queues chip queues text = voice_read_queues true chip queues text
