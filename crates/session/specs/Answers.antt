-- What a session's call answers, and the numbers of calls turned away (docs/SPECIFICATION.md, section 12).
use Rattle.std.specs.Prelude.{Result, Ok, Err, Bool, cond, List, [], ◌∷◌, ℕ, eqb, ℤ, length}
use Rattle.sizes.specs.Sizes.{ram_most}
use Rattle.cores.specs.Sizes.{chip_queues}
use Rattle.tone.specs.Pcm.{is_ram_length}
use Rattle.line_fields.specs.Text as lines
use Rattle.line_fields.specs.declared.RoomError.TheVariants as room
use Rattle.line_fields.specs.declared.FieldError.{FieldError}
use Rattle.line_fields.specs.declared.FieldError.TheVariants as fault
use Rattle.session_lines.specs.declared.VoiceError.{VoiceError}
use Rattle.session_lines.specs.declared.VoiceError.TheVariants as told
use Rattle.s3w2.specs.Refusals.{accepts_chip}
use Rattle.s3w2.specs.declared.Chip.{Chip}
use Rattle.s3w2.specs.Answers.{refusal_number}
use Rattle.session.specs.declared.LineRefusal.{LineRefusal}
use Rattle.session.specs.declared.LineRefusal.TheVariants.{OfChip, TextBuffer, Malformed, OtherLength, Queued}
use Rattle.session.specs.declared.LineCalled.{LineCalled}

-- what a call that gives an A answers
abbrev pub LineAnswer : Type 0 → Type 0
LineAnswer A = Result A LineRefusal

-- the number of a refusal with its values
abbrev pub refusal_numbers : LineRefusal → List ℕ
refusal_numbers (OfChip why) = refusal_number why ∷ []
refusal_numbers TextBuffer = 15 ∷ []
refusal_numbers (Malformed field) = 16 ∷ field ∷ []
refusal_numbers OtherLength = 22 ∷ []
refusal_numbers Queued = 23 ∷ []

-- an answer that is none has none
abbrev pub numbers_of : {A : Type 0} → LineAnswer A → List ℕ
numbers_of (Ok x) = []
numbers_of (Err why) = refusal_numbers why

abbrev pub line_answered : Chip → LineAnswer (Unit {0}) → LineCalled
line_answered chip answer = record { chip = chip; answer = answer }

-- the length of the line that was written, or that there is no room for it
abbrev pub wrote : lines.Written → LineAnswer ℕ
wrote (Ok n) = Ok n
wrote (Err room.TextBuffer) = Err TextBuffer

-- what refuses a line
abbrev pub field_refused : FieldError → LineRefusal
field_refused (fault.Malformed field) = Malformed field

abbrev pub voice_refused : VoiceError → LineRefusal
voice_refused (told.Malformed field) = Malformed field
voice_refused told.Queued = Queued

-- ---- what a call asks for

-- a voice's calls are lent no RAM
abbrev pub state_accepted : Chip → Bool
state_accepted chip = accepts_chip chip ram_most

abbrev pub queues_lent : List ℤ → Bool
queues_lent queues = eqb (length queues) chip_queues

-- what a call makes that is lent the RAM, of a length
abbrev pub with_lent_ram : {A : Type 0} → Chip → ℕ → A → A → A → A
with_lent_ram chip ram done not_accepted not_lent = cond (is_ram_length ram) (cond (accepts_chip chip ram) done not_accepted) not_lent

-- what a call on an accepted chip makes
abbrev pub with_state : {A : Type 0} → Chip → A → A → A
with_state chip done refused = cond (state_accepted chip) done refused

-- and one that is lent the queue buffer
abbrev pub with_lent_queues : {A : Type 0} → Chip → List ℤ → A → A → A → A
with_lent_queues chip queues done not_accepted not_lent = cond (queues_lent queues) (with_state chip done not_accepted) not_lent
