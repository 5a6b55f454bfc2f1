-- What is compared, a chip that reads a session, and DEMAND 3's claim.
use Rattle.std.specs.Prelude.{◌≡◌, true, List, [], ◌∷◌, map, ℕ, ℤ, length, replicate}
use Rattle.cores.specs.Sizes.{chip_voices, chip_queues}
use Rattle.version.specs.declared.SguVersion.{SguVersion}
use Rattle.session_lines.specs.Head.{head_text}
use Rattle.s3w2.specs.Fresh.{made_called, made_ram}
use Rattle.s3w2.specs.Refusals.{accepts_chip}
use Rattle.session.specs.Voices.{line_of_voice}
use Rattle.plain_chip.specs.Models.{plains}
use Rattle.pair_chip.specs.Pairs.{Plain, fresh_plain}
use Rattle.slots.specs.Models.{SlotPair, plain}
use Rattle.chip_as_slots.specs.Whole.{row}
use Rattle.call_lists.specs.Runs.{Outcome, after, trace}
use Rattle.call_lists.specs.Calls.{CallAnswer, Call, read_head, read_voice, replies, done, run}
use Rattle.call_lists.specs.Seen as calls
use Rattle.call_lists.specs.Seen.{Seen, FitCall}
use Rattle.session_texts.specs.Session.{session}
use Rattle.chip_calls.specs.Ties.{slot_pair, Machine, Typed}
use Rattle.chip_calls.specs.Code.{code}

-- the session text that `write_head` and `write_voice` write, and the RAM
abbrev pub seen : Machine → Seen
seen m = record { head = head_text m.chip.version (length m.ram); lines = row chip_voices (line_of_voice m.chip m.queues); ram = m.ram }

-- a chip that reads a session's head and then its voice lines, in order
abbrev pub reading : Seen → List Call
reading s = read_head s.head ∷ map read_voice s.lines

abbrev pub resumed : Machine → Seen → Machine
resumed m s = after code m (reading s)

-- a chip just made, as `with_version` makes it over a RAM
abbrev pub made : SguVersion → List ℕ → List ℤ → Machine
made version ram queues = record { chip = (made_called (length ram) version).chip; ram = made_ram ram; queues = queues }

-- a second chip: in any accepted state, with a queue buffer of its own and a copy of the RAM
pub record Second (first second : Machine) : Type 0 where
  pub accepted : accepts_chip second.chip (length second.ram) ≡ true
  pub typed : Typed second.chip second.queues
  pub long : length second.queues ≡ chip_queues
  pub copy : second.ram ≡ first.ram

-- ---- what is seen of calls: each answer with the values ahead of the volume of its ticks, then the session text and the RAM
abbrev pub of_chip : Machine → List Call → List (Outcome Seen CallAnswer)
of_chip m cs = trace code seen m cs

-- the same of the plain chip
abbrev pub of_plain : Plain → List Call → List (Outcome Seen CallAnswer)
of_plain p cs = trace (run plains session) (calls.seen_over plains session) p cs

abbrev pub answers_of : List (Outcome Seen CallAnswer) → List CallAnswer
answers_of l = map (λ (r : Outcome Seen CallAnswer). r.answer) l

abbrev pub slot_pair_in : Machine → SlotPair
slot_pair_in m = slot_pair m.chip m.ram m.queues

-- A chip is made and runs xs; there it is stopped. It goes on with ys; so does a second chip that reads its session text, and the plain
-- chip that ran xs too.
module _ (version : SguVersion) (ram : List ℕ) (queues : List ℤ) (xs : List Call) where
  abbrev pub stopped : Machine
  stopped = after code (made version ram queues) xs

  abbrev pub plain_start : Plain
  plain_start = fresh_plain version (length ram)

  abbrev pub plain_stopped : Plain
  plain_stopped = after (run plains session) plain_start xs

  pub record Resumes (ys : List Call) (second : Machine) : Type 0 where
    -- the second chip goes on as the first, the first as the plain chip; and so it was before the stop
    pub goes_on : of_chip (resumed second (seen stopped)) ys ≡ of_chip stopped ys
    pub as_plain : of_chip stopped ys ≡ of_plain plain_stopped ys
    pub before : of_chip (made version ram queues) xs ≡ of_plain plain_start xs
    -- the second chip takes the head and the sixteen lines, and its text is then the first's
    pub taken : answers_of (of_chip second (reading (seen stopped))) ≡ replicate 17 (replies done)
    pub same_text : seen (resumed second (seen stopped)) ≡ seen stopped

-- ---- any number of resumes: a score that goes on, call by call, and now and then over to another chip
pub data Deed : Type 0 where
  call : Call → Deed
  over : Machine → Deed

-- each call has bytes where it takes bytes, each other chip is a second chip of the one before it
abbrev pub Life : Machine → List Deed → Type 0
Life m [] = Unit {0}
Life m (call c ∷ ds) = FitCall c × Life (code m c).next ds
Life m (over n ∷ ds) = Second m n × Life (resumed n (seen m)) ds

-- what is seen of its calls, on whatever chip each was made
abbrev pub of_life : Machine → List Deed → List (Outcome Seen CallAnswer)
of_life m [] = []
of_life m (call c ∷ ds) = record { next = seen (code m c).next; answer = (code m c).answer } ∷ of_life (code m c).next ds
of_life m (over n ∷ ds) = of_life (resumed n (seen m)) ds

abbrev pub calls_of : List Deed → List Call
calls_of [] = []
calls_of (call c ∷ ds) = c ∷ calls_of ds
calls_of (over n ∷ ds) = calls_of ds

-- ---- texts and fields of two chips
pub record SameTexts (one two : Machine) : Type 0 where
  pub head : (seen one).head ≡ (seen two).head
  pub lines : (seen one).lines ≡ (seen two).lines

pub record SameFields (one two : Machine) : Type 0 where
  pub version : one.chip.version ≡ two.chip.version
  pub size : length one.ram ≡ length two.ram
  pub cores : (plain (slot_pair_in one)).cores ≡ (plain (slot_pair_in two)).cores
