-- A line written or read, by its kind. Assumes nothing.
use mathlib.Core.Path.{◌≡◌, refl, ap, ◌∙◌}
use mathlib.Core.Bool.{Bool, true, false}
use mathlib.Core.List.{List, []}
use Prim.Native.Nat.{ℕ, ◌-◌}
use lib.IntN.{ℤ}
use borrow.Author.Tests.{eq-eqb, ne_eqb}
use Rattle.decimal.specs.Read.{natural_at}
use Rattle.s3w2.specs.declared.Chip.{Chip}
use Rattle.session.specs.Answers.{LineAnswer}
use Rattle.session.specs.declared.LineCalled.{LineCalled}
use Rattle.session.specs.Heads.{write_head_answer, write_head_text, read_head_called}
use Rattle.session.specs.Voices.{write_voice_answer, write_voice_text, voice_read_called, voice_read_queues}
use Rattle.log_player.specs.declared.Player.{Player}
use Rattle.log_state.specs.declared.Taken.{Taken}
use Rattle.log_state.specs.Lines.{put_line_answer, put_line_text, taken_by, is_natural, own_line, take_line, take_line_queues}

module _ (chip : Chip) (ram : ℕ) (queues : List ℤ) (k : ℕ) (out text : List ℕ) (answer : LineAnswer ℕ) where
  pub head-written : k ≡ 0 → (answer ≡ write_head_answer chip ram out) × (text ≡ write_head_text chip ram out) → (answer ≡ put_line_answer chip ram queues k out) × (text ≡ put_line_text chip ram queues k out)
  unfolding put_line_answer put_line_text
  head-written e h = rw (eq-eqb k 0 e) h

  pub voice-written : (k ≡ 0 → ⊥) → (answer ≡ write_voice_answer chip queues (k - 1) out) × (text ≡ write_voice_text chip queues (k - 1) out) → (answer ≡ put_line_answer chip ram queues k out) × (text ≡ put_line_text chip ram queues k out)
  unfolding put_line_answer put_line_text
  voice-written e h = rw (ne_eqb k 0 e) h

module _ (stored : Bool) (p : Player) (ram : ℕ) (queues : List ℤ) (k : ℕ) (text : List ℕ) (r : Taken) (called : LineCalled) where
  pub head-taken : k ≡ 0 → called ≡ read_head_called p.chip ram text → r ≡ taken_by p called → (r ≡ take_line stored p ram queues k text) × (queues ≡ take_line_queues stored p queues k text)
  unfolding take_line take_line_queues
  head-taken e h s = rw (eq-eqb k 0 e) (s ∙ ap (λ (x : LineCalled). taken_by p x) h, refl)

  pub voice-taken : (b : Bool) (after : List ℤ) → (k ≡ 0 → ⊥) → stored ≡ b → (line : List ℕ) → line ≡ own_line (k - 1) text → (called ≡ voice_read_called b p.chip queues line) × (after ≡ voice_read_queues b p.chip queues line) → r ≡ taken_by p called → (r ≡ take_line stored p ram queues k text) × (after ≡ take_line_queues stored p queues k text)
  unfolding take_line take_line_queues
  voice-taken b after e f line o h s =
      rw (ne_eqb k 0 e, f)
      (s ∙ ap (λ (x : LineCalled). taken_by p x) (h.0 ∙ ap (voice_read_called b p.chip queues) o), h.1 ∙ ap (voice_read_queues b p.chip queues) o)

-- ---- a voice line by its first field
pub own-yes : (ch : ℕ) (text : List ℕ) → is_natural ch (natural_at text 0) ≡ true → text ≡ own_line ch text
unfolding own_line
own-yes ch text h = rw h

pub own-no : (ch : ℕ) (text : List ℕ) → is_natural ch (natural_at text 0) ≡ false → [] ≡ own_line ch text
unfolding own_line
own-no ch text h = rw h
