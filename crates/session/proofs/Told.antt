-- A voice line's reading by what it tells: a voice, one of the sixteen, or a fault. Assumes nothing.
use mathlib.Core.Path.{◌≡◌, refl, sym, ap, subst}
use mathlib.Core.Bool.{Bool, true, false}
use mathlib.Core.List.{List}
use Prim.Native.Nat.{ℕ, ◌<◌}
use native.Mathlib.Omega.{arith}
use Rattle.cores.specs.Sizes.{chip_voices}
use Rattle.num.proofs.Choice.{never}
use Rattle.version.specs.declared.SguVersion.{SguVersion}
use Rattle.session_lines.specs.Lines.{NumberedVoice, ReadVoice, voice, malformed, queued, read_as, told_of, VoiceLine}
use Rattle.session_lines.proofs.Taken.{read_told}
use Rattle.std.specs.Prelude.{Ok, Err}
use Rattle.session_lines.specs.declared.VoiceError.TheVariants as told

-- ---- a voice is not a fault, and is told by its number
abbrev is_voice : VoiceLine → Bool
is_voice (Ok n) = true
is_voice (Err (told.Malformed field)) = false
is_voice (Err told.Queued) = false

abbrev number_in : VoiceLine → ℕ
number_in (Ok n) = n
number_in (Err (told.Malformed field)) = field
number_in (Err told.Queued) = 0

abbrev is_fault : VoiceLine → Bool
is_fault (Ok n) = false
is_fault (Err (told.Malformed field)) = true
is_fault (Err told.Queued) = false

-- what a reading is that tells of a voice, of a fault, or of a queue
module _ (P : ReadVoice → Type 0) where
  pub by-voice : (r : ReadVoice) (number : ℕ) → told_of r ≡ Ok number → ((v : NumberedVoice) → v.number ≡ number → P (voice v)) → P r
  by-voice (voice v) number e f = f v (ap number_in e)
  by-voice (malformed field) number e f = never (sym (ap is_voice e))
  by-voice queued number e f = never (sym (ap is_voice e))

  pub by-fault : (r : ReadVoice) (field : ℕ) → told_of r ≡ Err (told.Malformed field) → P (malformed field) → P r
  by-fault (voice v) field e p = never (ap is_voice e)
  by-fault (malformed other) field e p = subst (λ (n : ℕ). P (malformed n)) (sym (ap number_in e)) p
  by-fault queued field e p = never (sym (ap is_fault e))

  pub by-queue : (r : ReadVoice) → told_of r ≡ Err told.Queued → P queued → P r
  by-queue (voice v) e p = never (ap is_voice e)
  by-queue (malformed field) e p = never (ap is_fault e)
  by-queue queued e p = p

pub read_named : (stored : Bool) (version : SguVersion) (text : List ℕ) (number : ℕ) → told_of (read_as stored version text) ≡ Ok number → number < chip_voices
read_named stored version text number e =
    by-voice (λ (r : ReadVoice). read_as stored version text ≡ r → number < chip_voices) (read_as stored version text) number e (λ v q i. omega (arith, q, (read_told stored version text v i).named)) refl
