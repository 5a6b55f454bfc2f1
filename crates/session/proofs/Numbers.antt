-- What a line's writing or reading answers keeps its number in the call's answer. Assumes nothing.
use mathlib.Core.Path.{◌≡◌, refl}
use mathlib.Core.Bool.{Bool, true, false, cond}
use mathlib.Core.List.{List, [], ◌∷◌, ◌++◌}
use Prim.Native.Nat.{ℕ}
use lib.Dec.{eqb}
use Rattle.line_fields.specs.Text.{written_number, Written}
use Rattle.session_lines.specs.Head.{head_line_number, HeadLine}
use Rattle.session_lines.specs.Lines.{ReadVoice, voice, malformed, queued, told_of, voice_line_number}
use Rattle.s3w2.specs.declared.Chip.{Chip}
use Rattle.session.specs.Answers.{numbers_of, wrote}
use Rattle.session.specs.declared.LineCalled.{LineCalled}
use Rattle.session.specs.Heads.{head_called}
use Rattle.session.specs.Voices.{voice_called}
use Rattle.std.specs.Prelude.{Ok, Err}
use Rattle.session_lines.specs.declared.SessionHead.TheVariants.{Version, Sized}
use Rattle.line_fields.specs.declared.FieldError.TheVariants.{Malformed}
use Rattle.line_fields.specs.declared.RoomError.TheVariants.{TextBuffer}

pub written-number : (w : Written) → numbers_of (wrote w) ≡ written_number w
written-number (Ok n) = refl
written-number (Err TextBuffer) = refl

-- but for the length of another RAM, which the head itself does not tell
abbrev other_length : ℕ → HeadLine → List ℕ
other_length ram (Ok (Version version)) = []
other_length ram (Ok (Sized version size)) = cond (eqb size ram) [] (22 ∷ [])
other_length ram (Err (Malformed field)) = []

either : (b : Bool) (x y : LineCalled) → numbers_of (cond b x y).answer ≡ cond b (numbers_of x.answer) (numbers_of y.answer)
either true x y = refl
either false x y = refl

pub head-number : (chip : Chip) (ram : ℕ) (h : HeadLine) → numbers_of (head_called chip ram h).answer ≡ head_line_number h ++ other_length ram h
head-number chip ram (Ok (Version version)) = refl
head-number chip ram (Ok (Sized version size)) = either (eqb size ram) _ _
head-number chip ram (Err (Malformed field)) = refl

pub voice-number : (chip : Chip) (r : ReadVoice) → numbers_of (voice_called chip r).answer ≡ voice_line_number (told_of r)
voice-number chip (voice v) = refl
voice-number chip (malformed field) = refl
voice-number chip queued = refl
