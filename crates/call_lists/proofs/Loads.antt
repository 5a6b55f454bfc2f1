-- Voice lines read in order, from voice 0 up, give a plain chip the voices that they were written of. Assumes nothing.
use mathlib.Core.Path.{◌≡◌, refl, sym, ap, ◌∙◌}
use mathlib.Core.List.{List, [], ◌∷◌, ◌++◌, map, append_assoc, map-append}
use Prim.Native.Nat.{ℕ, zero, suc, ◌+◌, ◌*◌, ◌/◌, ◌%◌, ◌≤◌, ◌<◌}
use native.Mathlib.Omega.{arith}
use lib.ListN.{length, get_or, set, take, drop, replicate, length-append, length-map}
use lib.Seq.{set-append_seam, take_at, drop_at, take-set-lt, take-set-le, drop-set-lt, drop-set-add}
use Rattle.sizes.specs.Sizes.{num_channels}
use Rattle.cores.specs.Sizes.{num_cores, chip_voices}
use Rattle.version.specs.declared.SguVersion.{SguVersion}
use Rattle.plain_chip.specs.Lists.{Every}
use Rattle.plain_chip.specs.Voices.{PlainVoice}
use Rattle.plain_chip.specs.Models.{plains}
use Rattle.plain_chip.specs.Chips.{load_voice}
use Rattle.pair_chip.specs.Pairs.{Plain, on_core}
use Rattle.plain_chip.specs.Good.{FitVoice}
use Rattle.call_lists.specs.Runs.{Outcome, after, trace}
use Rattle.call_lists.specs.Texts.{Texts, TextsOk, VoiceRead}
use Rattle.call_lists.specs.Calls.{CallAnswer, read_voice, voice_told, replies, done, run}
use Rattle.call_lists.specs.Seen.{Seen, lines_from}

-- sixteen voices as those of two cores
abbrev pub split : {A : Type 0} → List A → List (List A)
split l = take num_channels l ∷ drop num_channels l ∷ []

pub split-seen : {A B : Type 0} (g : A → B) (l : List (List A)) → length l ≡ num_cores → length (get_or l 0 []) ≡ num_channels → map (map g) l ≡ split (map g (get_or l 0 [] ++ get_or l 1 []))
split-seen g [] e h = absurd (omega arith)
split-seen g (x ∷ []) e h = absurd (omega arith)
split-seen g (x ∷ y ∷ []) e h =
    let n : length (map g x) ≡ num_channels = length-map x g ∙ h in
    rw (map-append, take_at (map g x) (map g y) num_channels n, drop_at (map g x) (map g y) num_channels n) refl
split-seen g (x ∷ y ∷ z ∷ l) e h = absurd (omega arith)

module _ (t : Texts) (texts : TextsOk t) (version : SguVersion) (ram : List ℕ) where
  abbrev over : List PlainVoice → Plain
  over l = record { version = version; ram = ram; cores = split l }

  -- voice j of core i
  placed : (i j k : ℕ) (v : PlainVoice) (l : List PlainVoice) → k ≡ num_channels * i + j → j < num_channels → i < num_cores → on_core i (load_voice plains j v) (over l) ≡ over (set l k v)
  placed zero j k v l e h q =
      let n : j ≡ k = omega arith in
      ap (λ (m : ℕ). on_core 0 (load_voice plains m v) (over l)) n ∙ rw (take-set-lt num_channels l k v (omega arith), drop-set-lt num_channels l k v (omega arith)) refl
  placed (suc zero) j k v l e h q =
      let n : k ≡ num_channels + j = omega arith in
      rw (n, take-set-le num_channels l (num_channels + j) v (omega arith), drop-set-add num_channels l j v) refl
  placed (suc (suc i)) j k v l e h q = absurd (omega arith)

  -- one line
  read_one : (k : ℕ) (v : PlainVoice) (l : List PlainVoice) → k < chip_voices → FitVoice version v → (run plains t (over l) (read_voice (t.voice_text k v))).next ≡ over (set l k v)
  unfolding run
  read_one k v l h f = ap (λ (r : VoiceRead). (voice_told plains t (over l) r).next) (texts.voice-back version k v h f) ∙ placed (k / num_channels) (k % num_channels) k v l (omega arith) (omega arith) (omega arith)

  one_more : (pre : List PlainVoice) (v : PlainVoice) (l : List PlainVoice) → (pre ++ (v ∷ [])) ++ l ≡ pre ++ (v ∷ l)
  one_more pre v l = append_assoc pre (v ∷ []) l

  longer : (pre : List PlainVoice) (v : PlainVoice) → length (pre ++ (v ∷ [])) ≡ suc (length pre)
  longer pre v = length-append pre (v ∷ []) ∙ omega arith

  -- those after the ones that have been read
  read-rest : (l cur pre : List PlainVoice) → length cur ≡ length l → length pre + length l ≤ chip_voices → Every (FitVoice version) l
      → after (run plains t) (over (pre ++ cur)) (map read_voice (lines_from t (length pre) l)) ≡ over (pre ++ l)
  read-rest [] [] pre e h p = refl
  read-rest [] (x ∷ cur) pre e h p = absurd (omega arith)
  read-rest (v ∷ l) [] pre e h p = absurd (omega arith)
  read-rest (v ∷ l) (x ∷ cur) pre e h p =
      let next : (run plains t (over (pre ++ (x ∷ cur))) (read_voice (t.voice_text (length pre) v))).next ≡ over ((pre ++ (v ∷ [])) ++ cur) =
      read_one (length pre) v (pre ++ (x ∷ cur)) (omega arith) p.0 ∙ ap over (set-append_seam pre x cur v ∙ sym (one_more pre v cur)) in
      ap (λ (c : Plain). after (run plains t) c (map read_voice (lines_from t (suc (length pre)) l))) next
      ∙ ap (λ (n : ℕ). after (run plains t) (over ((pre ++ (v ∷ [])) ++ cur)) (map read_voice (lines_from t n l))) (sym (longer pre v))
      ∙ read-rest l cur (pre ++ (v ∷ [])) (omega arith) (let m = longer pre v in omega (arith, m)) p.1
      ∙ ap over (one_more pre v l)

  pub read_all : (l cur : List PlainVoice) → length cur ≡ length l → length l ≤ chip_voices → Every (FitVoice version) l
      → after (run plains t) (over cur) (map read_voice (lines_from t 0 l)) ≡ over l
  read_all l cur e h p = read-rest l cur [] e (omega arith) p

  -- and each is taken
  pub read_done : (show : Plain → Seen) (k : ℕ) (l : List PlainVoice) (c : Plain) → c.version ≡ version → k + length l ≤ chip_voices → Every (FitVoice version) l
      → map (λ (r : Outcome Seen CallAnswer). r.answer) (trace (run plains t) show c (map read_voice (lines_from t k l))) ≡ replicate (length l) (replies done)
  unfolding run
  read_done show k [] c e h p = refl
  read_done show k (v ∷ l) c e h p =
      let back : t.read_voice c.version (t.voice_text k v) ≡ VoiceRead.voice k v = ap (λ (x : SguVersion). t.read_voice x (t.voice_text k v)) e ∙ texts.voice-back version k v (omega arith) p.0 in
      let told : voice_told plains t c (t.read_voice c.version (t.voice_text k v)) ≡ voice_told plains t c (VoiceRead.voice k v) = ap (voice_told plains t c) back in
      ap (λ (r : Outcome Plain CallAnswer). r.answer ∷ map (λ (r : Outcome Seen CallAnswer). r.answer) (trace (run plains t) show r.next (map read_voice (lines_from t (suc k) l)))) told
      ∙ ap (λ (m : List CallAnswer). replies done ∷ m) (read_done show (suc k) l (voice_told plains t c (VoiceRead.voice k v)).next e (omega arith) p.1)
