-- A chip of two cores over a model of voices: each, with the version and the RAM, is what crate plain_chip speaks of. Over slots it is the chip with
-- its lent buffers, over plain voices document 01's plain chip.
use Rattle.std.specs.Prelude.{◌≡◌, cond, List, [], ◌∷◌, ◌++◌, map, ℕ, ◌*◌, ltb, ℤ, pos, length, get_or, set, replicate}
use Rattle.sizes.specs.Sizes.{num_channels, stems_per_frame}
use Rattle.cores.specs.Sizes.{num_cores}
use Rattle.cores.specs.Stems.{paired}
use Rattle.version.specs.Versions.{core_count}
use Rattle.version.specs.declared.SguVersion.{SguVersion}
use Rattle.plain_chip.specs.Lists.{Every}
use Rattle.plain_chip.specs.Voices.{PlainVoice, fresh_voice}
use Rattle.plain_chip.specs.Models.{Model}
use Rattle.plain_chip.specs.Frames.{ModelTurns, no_turn}
use Rattle.plain_chip.specs.Chips.{ModelChip, generated, clocked}
use Rattle.plain_chip.specs.Chips as chips
use Rattle.plain_chip.specs.Good.{ChipOk}

pub record Pair (A : Type 0) : Type 0 where
  pub version : SguVersion
  pub ram : List ℕ
  pub cores : List (List A)

abbrev pub Plain : Type 0
Plain = Pair PlainVoice

-- one just made, over a RAM of that length: the RAM is zeroed
abbrev pub fresh_plain : SguVersion → ℕ → Plain
fresh_plain version size = record { version = version; ram = replicate size 0; cores = replicate num_cores (replicate num_channels fresh_voice) }

module _ {A : Type 0} where
  abbrev pub core_of : Pair A → ℕ → List A
  core_of p i = get_or p.cores i []

  abbrev pub with_cores : Pair A → List (List A) → Pair A
  with_cores p l = record { version = p.version; ram = p.ram; cores = l }

  -- some voices with the version and the RAM
  abbrev pub core_chip : Pair A → List A → ModelChip A
  core_chip p l = record { version = p.version; ram = p.ram; voices = l }

  -- ---- a call that names a core; one above 1 is none
  abbrev pub on_core : ℕ → (ModelChip A → ModelChip A) → Pair A → Pair A
  on_core i f p = with_cores p (set p.cores i (f (core_chip p (core_of p i))).voices)

  abbrev pub of_core : {B : Type 0} → ℕ → B → (ModelChip A → B) → Pair A → B
  of_core i none f p = cond (ltb i num_cores) (f (core_chip p (core_of p i))) none

  -- ---- a call on both cores, which makes the same of version and RAM whatever the voices
  abbrev pub on_all : (ModelChip A → ModelChip A) → Pair A → Pair A
  on_all f p =
      let c = f (core_chip p []) in
      record { version = c.version; ram = c.ram; cores = map (λ l. (f (core_chip p l)).voices) p.cores }

  -- ---- turns of core i; a core that the version lacks is not ticked
  abbrev pub turns_of : ℕ → (ModelChip A → ModelTurns A) → (List A → ModelTurns A) → Pair A → ModelTurns A
  turns_of i f still p = cond (ltb i (core_count p.version)) (f (core_chip p (core_of p i))) (still (core_of p i))

  abbrev pub silent_turns : ℕ → List A → ModelTurns A
  silent_turns n l = record { voices = l; stems = replicate (stems_per_frame * n) (pos 0); sample = pos 0; values = [] }

module _ {A : Type 0} (m : Model A) where
  -- the session's fields of a voice
  abbrev pub fields_at : Pair A → ℕ → ℕ → PlainVoice
  fields_at p i ch = chips.fields_at m (core_chip p (core_of p i)) ch

  -- one tick of one voice of core i
  abbrev pub core_tick : ℕ → ℕ → Pair A → ModelTurns A
  core_tick ch i p = turns_of i (generated m ch) no_turn p

  abbrev pub ticked : ℕ → ℕ → Pair A → Pair A
  ticked ch i p = with_cores p (set p.cores i (core_tick ch i p).voices)

  -- n frames of core i
  abbrev pub core_frames : ℕ → ℕ → Pair A → ModelTurns A
  core_frames n i p = turns_of i (clocked m n) (silent_turns n) p

  abbrev pub framed : ℕ → Pair A → Pair A
  framed n p = with_cores p ((core_frames n 0 p).voices ∷ (core_frames n 1 p).voices ∷ [])

  abbrev pub frames_stems : ℕ → Pair A → List ℤ
  frames_stems n p = paired n (core_frames n 0 p).stems (core_frames n 1 p).stems

  -- the values ahead of the volume of all their ticks
  abbrev pub frames_values : ℕ → Pair A → List ℤ
  frames_values n p = (core_frames n 0 p).values ++ (core_frames n 1 p).values

-- two cores of eight good voices each over a RAM of bytes
pub record PairOk {A : Type 0} (P : SguVersion → List ℕ → A → Type 0) (p : Pair A) : Type 0 where
  pub cores : Every (λ (l : List A). ChipOk P (core_chip p l)) p.cores
  pub two : length p.cores ≡ num_cores
