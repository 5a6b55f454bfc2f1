-- Texts tell fields apart: two chips of which the same text is seen have the same version, RAMs of the same length and the same fields. Assumes
-- nothing but what a session's lines promise (TextsOk).
use mathlib.Core.Path.{◌≡◌, refl, sym, ap, ap₂, ◌∙◌}
use mathlib.Core.Bool.{true}
use mathlib.Core.List.{List, [], ◌∷◌}
use Prim.Native.Nat.{ℕ, suc, ◌+◌, ◌≤◌}
use native.Mathlib.Omega.{arith}
use lib.ListN.{length}
use Rattle.cores.specs.Sizes.{chip_voices}
use Rattle.tone.specs.Pcm.{is_ram_length}
use Rattle.version.specs.declared.SguVersion.{SguVersion}
use Rattle.plain_chip.specs.Lists.{Every}
use Rattle.plain_chip.specs.Voices.{PlainVoice, fresh_voice}
use Rattle.plain_chip.specs.Good.{FitVoice}
use Rattle.call_lists.specs.Texts.{Texts, TextsOk, VoiceRead, voice, HeadRead, head, sized}
use Rattle.call_lists.specs.Seen.{lines_from}

version_in : SguVersion → HeadRead → SguVersion
version_in other (head version) = version
version_in other (sized version size) = version
version_in other (HeadRead.faulty field) = other

size_in : HeadRead → ℕ
size_in (head version) = 0
size_in (sized version size) = size
size_in (HeadRead.faulty field) = 0

fields_in : VoiceRead → PlainVoice
fields_in (voice ch v) = v
fields_in (VoiceRead.faulty field) = fresh_voice
fields_in VoiceRead.queued = fresh_voice

first : List (List ℕ) → List ℕ
first [] = []
first (x ∷ l) = x

rest : List (List ℕ) → List (List ℕ)
rest [] = []
rest (x ∷ l) = l

module _ (t : Texts) (texts : TextsOk t) where
  module _ (a b : SguVersion) (m n : ℕ) (g : is_ram_length m ≡ true) (h : is_ram_length n ≡ true) (e : t.head_text a m ≡ t.head_text b n) where
    same-heads : sized a m ≡ sized b n
    same-heads = sym (texts.head-back a m g) ∙ ap t.read_head e ∙ texts.head-back b n h

    pub same_versions : a ≡ b
    unfolding version_in
    same_versions = ap (version_in a) same-heads

    pub same-sizes : m ≡ n
    unfolding size_in
    same-sizes = ap size_in same-heads

  one_same : (version : SguVersion) (k : ℕ) (v w : PlainVoice) → k + 1 ≤ chip_voices → FitVoice version v → FitVoice version w → t.voice_text k v ≡ t.voice_text k w → v ≡ w
  unfolding fields_in
  one_same version k v w h f g e = ap fields_in (sym (texts.voice-back version k v (omega arith) f) ∙ ap (t.read_voice version) e ∙ texts.voice-back version k w (omega arith) g)

  pub same_lines : (version : SguVersion) (k : ℕ) (l m : List PlainVoice) → length l ≡ length m → k + length l ≤ chip_voices → Every (FitVoice version) l → Every (FitVoice version) m → lines_from t k l ≡ lines_from t k m → l ≡ m
  unfolding first rest
  same_lines version k [] [] n h f g e = refl
  same_lines version k [] (w ∷ m) n h f g e = absurd (omega (arith, n))
  same_lines version k (v ∷ l) [] n h f g e = absurd (omega (arith, n))
  same_lines version k (v ∷ l) (w ∷ m) n h f g e =
      ap₂ (λ (x : PlainVoice) (y : List PlainVoice). x ∷ y) (one_same version k v w (omega (arith, h)) f.0 g.0 (ap first e))
      (same_lines version (suc k) l m (omega (arith, n)) (omega (arith, h)) f.1 g.1 (ap rest e))
