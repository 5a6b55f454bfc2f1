-- What a call answers, and document 01's numbers for calls turned away.
use Rattle.std.specs.Prelude.{Bool, true, false, cond, List, [], ◌∷◌, ℕ, Result, Ok, Err, is_ok}
use Rattle.s3w2.specs.declared.Returned.{Returned}
use Rattle.s3w2.specs.declared.Returned.TheVariants.{Done, Byte, Sample, Count, Flag, Ended}
use Rattle.s3w2.specs.declared.Refusal.{Refusal}
use Rattle.s3w2.specs.declared.Refusal.TheVariants.{RamLength, QueueBuffer, NotAccepted, StemBuffer}
use Rattle.s3w2.specs.declared.Called.{Called}
use Rattle.s3w2.specs.declared.Chip.{Chip}

-- what a call returns, or why it is turned away
abbrev pub Answer : Type 0
Answer = Result Returned Refusal

-- nothing is amiss, or what is
abbrev pub Checked : Type 0
Checked = Result (Unit {0}) Refusal

abbrev pub refusal_number : Refusal → ℕ
refusal_number RamLength = 1
refusal_number QueueBuffer = 2
refusal_number NotAccepted = 3
refusal_number StemBuffer = 14

-- the number of a refusal; an answer that is none has none
abbrev pub number_of : {A : Type 0} → Result A Refusal → List ℕ
number_of (Ok x) = []
number_of (Err why) = refusal_number why ∷ []

-- the byte that a call returns; 0 where it returns none
abbrev pub byte_returned : Returned → ℕ
byte_returned (Byte x) = x
byte_returned Done = 0
byte_returned (Sample x e) = 0
byte_returned (Count x) = 0
byte_returned (Flag x) = 0
byte_returned (Ended x) = 0

abbrev pub byte_answered : Answer → ℕ
byte_answered (Ok x) = byte_returned x
byte_answered (Err why) = 0

-- whether a call was carried out that returns nothing
abbrev pub is_done : Answer → Bool
is_done (Ok Done) = true
is_done (Ok (Byte x)) = false
is_done (Ok (Sample x e)) = false
is_done (Ok (Count x)) = false
is_done (Ok (Flag x)) = false
is_done (Ok (Ended x)) = false
is_done (Err why) = false

-- what a call leaves: `done` where it is not turned away
abbrev pub unless : {A : Type 0} → Checked → A → A → A
unless refusal kept done = cond (is_ok refusal) done kept

-- the answer of a call that returns nothing
abbrev pub done_unless : Checked → Answer
done_unless (Ok x) = Ok Done
done_unless (Err why) = Err why

abbrev pub answered : Chip → Answer → Called
answered chip answer = record { chip = chip; answer = answer }

-- a refused call leaves the chip as it is
abbrev pub called : Checked → Chip → Called → Called
called refusal chip done = unless refusal (answered chip (done_unless refusal)) done

-- a call that only tells
abbrev pub told : Checked → Answer → Answer
told refusal done = unless refusal (done_unless refusal) done
