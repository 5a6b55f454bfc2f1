-- The numbers of a session line's answers are those of what was read. Assumes nothing.
use mathlib.Core.Path.{◌≡◌, refl, ap, ◌∙◌}
use mathlib.Core.List.{List}
use Prim.Native.Nat.{ℕ}
use Rattle.session_lines.specs.Head.{read_head, head_line_number, head_refusal, HeadLine}
use Rattle.session_lines.specs.Lines.{ReadVoice, voice, malformed, queued, told_of, voice_line_number, voice_refusal, VoiceLine}

pub voice-refused : (v : ReadVoice) → voice_line_number (told_of v) ≡ voice_refusal v
unfolding voice_refusal
voice-refused (voice v) = refl
voice-refused (malformed field) = refl
voice-refused queued = refl

-- ---- an answer with its number
pub told-head : (r : HeadLine) (text : List ℕ) → r ≡ read_head text → (r ≡ read_head text) × (head_line_number r ≡ head_refusal text)
unfolding head_refusal
told-head r text e = (e, ap head_line_number e)

pub told-voice : (r : VoiceLine) (v : ReadVoice) → r ≡ told_of v → (r ≡ told_of v) × (voice_line_number r ≡ voice_refusal v)
told-voice r v e = (e, ap voice_line_number e ∙ voice-refused v)
