-- What ties a call of the chip to the call of the list.
use Rattle.std.specs.Prelude.{Ok, Err, ◌≡◌, true, List, [], ◌∷◌, ℕ, ◌<◌, ℤ, length}
use Rattle.sizes.specs.Sizes.{num_channels}
use Rattle.cores.specs.Sizes.{num_cores, chip_queues}
use Rattle.tone.specs.Pcm.{is_ram_length}
use Rattle.registers.specs.PlainQueue.{FitEntries}
use Rattle.voices.specs.Core.{channel_at}
use Rattle.voices.specs.Accepted.{SizedCore}
use Rattle.voices.specs.declared.Core.{Core}
use Rattle.s3w2.specs.declared.Chip.{Chip}
use Rattle.s3w2.specs.declared.Called.{Called}
use Rattle.s3w2.specs.declared.Returned.TheVariants.{Done, Byte, Sample, Count, Flag, Ended}
use Rattle.s3w2.specs.Answers.{Answer, refusal_number}
use Rattle.s3w2.specs.Chips.{core_at}
use Rattle.session.specs.Answers.{LineAnswer, refusal_numbers}
use Rattle.session.specs.declared.LineCalled.{LineCalled}
use Rattle.slots.specs.Models.{SlotPair}
use Rattle.plain_chip.specs.Good.{Bytes}
use Rattle.slots.specs.Good.{FitChannel, SlotPairOk}
use Rattle.chip_as_slots.specs.Pairs.{pair_world}
use Rattle.call_lists.specs.Runs.{Outcome}
use Rattle.call_lists.specs.Calls as list
use Rattle.call_lists.specs.Calls.{Reply, done, byte, count, flag, sample, ended, refused}

-- a chip with its lent RAM and queue buffer, as a world
abbrev pub slot_pair : Chip → List ℕ → List ℤ → SlotPair
slot_pair chip ram queues = pair_world chip.version chip.cores ram queues

pub record SizedChip (chip : Chip) : Type 0 where
  pub two : length chip.cores ≡ num_cores
  pub each : (k : ℕ) → k < num_cores → SizedCore (core_at chip k)

-- the lengths that calls ask for, and a good world
pub record GoodMachine (chip : Chip) (ram : List ℕ) (queues : List ℤ) : Type 0 where
  pub allowed : is_ram_length (length ram) ≡ true
  pub sized : SizedChip chip
  pub long : length queues ≡ chip_queues
  pub good : SlotPairOk (slot_pair chip ram queues)

-- what the types give a core
pub record TypedCore (k : Core) : Type 0 where
  pub sized : SizedCore k
  pub fits : (j : ℕ) → j < num_channels → FitChannel (channel_at k j)
  pub bytes : Bytes k.wavetables

-- and a chip and a lent queue buffer
pub record Typed (chip : Chip) (queues : List ℤ) : Type 0 where
  pub two : length chip.cores ≡ num_cores
  pub cores : (k : ℕ) → k < num_cores → TypedCore (core_at chip k)
  pub entries : FitEntries queues

-- ---- what a call leaves: chip, RAM and queue buffer
pub record Machine : Type 0 where
  pub chip : Chip
  pub ram : List ℕ
  pub queues : List ℤ

abbrev pub machine : Chip → List ℕ → List ℤ → Machine
machine chip ram queues = record { chip = chip; ram = ram; queues = queues }

abbrev pub left : Chip → List ℕ → List ℤ → list.CallAnswer → Outcome Machine list.CallAnswer
left chip ram queues answer = record { next = machine chip ram queues; answer = answer }

-- the list's reply that an answer is
abbrev pub reply_of : Answer → Reply
reply_of (Ok Done) = done
reply_of (Ok (Byte x)) = byte x
reply_of (Ok (Sample x e)) = sample x e
reply_of (Ok (Count x)) = count x
reply_of (Ok (Flag x)) = flag x
reply_of (Ok (Ended s)) = ended s
reply_of (Err why) = refused (refusal_number why ∷ [])

-- a call without a text: the lent stems or sides as it left them
abbrev pub by : Called → List ℕ → List ℤ → List (List ℤ) → Outcome Machine list.CallAnswer
by called ram queues sides = left called.chip ram queues (list.plays (reply_of called.answer) sides [])

-- one that ticks, with the values ahead of the volume of its ticks
abbrev pub sounded : Called → List ℕ → List ℤ → List (List ℤ) → List ℤ → Outcome Machine list.CallAnswer
sounded called ram queues sides values = left called.chip ram queues (list.plays (reply_of called.answer) sides values)

-- a call that only tells
abbrev pub only_tells : Chip → List ℕ → List ℤ → Answer → Outcome Machine list.CallAnswer
only_tells chip ram queues answer = left chip ram queues (list.replies (reply_of answer))

-- ---- a session's lines
abbrev pub line_reply : LineAnswer (Unit {0}) → Reply
line_reply (Ok x) = done
line_reply (Err why) = refused (refusal_numbers why)

-- of one written, the length
abbrev pub written_reply : LineAnswer ℕ → Reply
written_reply (Ok n) = count n
written_reply (Err why) = refused (refusal_numbers why)

-- one written to a lent text
abbrev pub wrote_by : Chip → List ℕ → List ℤ → LineAnswer ℕ → List ℕ → Outcome Machine list.CallAnswer
wrote_by chip ram queues answer text = left chip ram queues (record { reply = written_reply answer; sides = []; text = text; values = [] })

-- one read
abbrev pub read_by : LineCalled → List ℕ → List ℤ → Outcome Machine list.CallAnswer
read_by called ram queues = left called.chip ram queues (list.replies (line_reply called.answer))

-- ---- the list's call leaves and answers the same, and the next call can be made
pub record Tied (y : Outcome Machine list.CallAnswer) (x : Outcome SlotPair list.CallAnswer) : Type 0 where
  pub next : slot_pair y.next.chip y.next.ram y.next.queues ≡ x.next
  pub answer : y.answer ≡ x.answer
  pub held : GoodMachine y.next.chip y.next.ram y.next.queues
