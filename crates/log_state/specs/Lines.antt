-- The lines of a state, written and read.
use Rattle.std.specs.Prelude.{Bool, false, cond, List, [], ◌++◌, ℕ, zero, suc, ◌+◌, ◌-◌, eqb, ℤ, length, Some, None}
use Rattle.cores.specs.Sizes.{chip_voices}
use Rattle.decimal.specs.Read.{natural_at, Numeral}
use Rattle.session_lines.specs.Head.{head_text}
use Rattle.s3w2.specs.declared.Chip.{Chip}
use Rattle.session.specs.Answers.{LineAnswer}
use Rattle.session.specs.declared.LineCalled.{LineCalled}
use Rattle.session.specs.Heads.{write_head_answer, write_head_text, read_head_called}
use Rattle.session.specs.Voices.{line_of_voice, write_voice_answer, write_voice_text, voice_read_called, voice_read_queues}
use Rattle.log_player.specs.declared.Player.{Player}
use Rattle.log_player.specs.Worlds.{World, with_chip}
use Rattle.log_state.specs.declared.Taken.{Taken}

-- line 0 is the head, line k that of voice k - 1; the RAM's length comes with the chip
unfoldable pub state_line : Chip → ℕ → List ℤ → ℕ → List ℕ
state_line chip ram queues k = cond (eqb k 0) (head_text chip.version ram) (line_of_voice chip queues (k - 1))

-- n lines, from line k on
abbrev pub state_lines : Chip → ℕ → List ℤ → ℕ → ℕ → List ℕ
state_lines chip ram queues zero k = []
state_lines chip ram queues (suc n) k = state_line chip ram queues k ++ state_lines chip ram queues n (suc k)

-- the head and a line for each voice
abbrev pub line_count : ℕ
line_count = 1 + chip_voices

-- the lines, then the bytes of the RAM
abbrev pub state_text : World → List ℕ
state_text w = state_lines w.player.chip (length w.ram) w.queues line_count 0 ++ w.ram

-- ---- a line written into a buffer

unfoldable pub put_line_answer : Chip → ℕ → List ℤ → ℕ → List ℕ → LineAnswer ℕ
put_line_answer chip ram queues k out = cond (eqb k 0) (write_head_answer chip ram out) (write_voice_answer chip queues (k - 1) out)

unfoldable pub put_line_text : Chip → ℕ → List ℤ → ℕ → List ℕ → List ℕ
put_line_text chip ram queues k out = cond (eqb k 0) (write_head_text chip ram out) (write_voice_text chip queues (k - 1) out)

-- ---- a line read, as a stored one or as any: the peaks stay

abbrev pub is_natural : ℕ → Numeral ℕ → Bool
is_natural n (Some (m, next)) = eqb m n
is_natural n None = false

-- voice lines stand in order: one that does not begin with its voice's number is read as an empty one, which is malformed at field 1
unfoldable pub own_line : ℕ → List ℕ → List ℕ
own_line ch text = cond (is_natural ch (natural_at text 0)) text []

abbrev pub taken_by : Player → LineCalled → Taken
taken_by p called = record { player = with_chip p called.chip; answer = called.answer }

unfoldable pub take_line : Bool → Player → ℕ → List ℤ → ℕ → List ℕ → Taken
take_line stored p ram queues k text = taken_by p (cond (eqb k 0) (read_head_called p.chip ram text) (voice_read_called stored p.chip queues (own_line (k - 1) text)))

unfoldable pub take_line_queues : Bool → Player → List ℤ → ℕ → List ℕ → List ℤ
take_line_queues stored p queues k text = cond (eqb k 0) queues (voice_read_queues stored p.chip queues (own_line (k - 1) text))
