-- A list of calls on both cores: what is lent to it, what it leaves, and core 1 after one of its calls.
use Rattle.std.specs.Prelude.{is_ok, ◌≡◌, Bool, true, false, cond, ◌&&◌, List, ℕ, ◌*◌, eqb, ltb, ℤ, pos, length, get_or, replicate}
use Rattle.std.proofs.lemmas.List.Edits.{sets}
use Rattle.sizes.specs.Sizes.{stems_per_frame}
use Rattle.cores.specs.Sizes.{chip_queues}
use Rattle.tone.specs.Pcm.{is_ram_length}
use Rattle.version.specs.Versions.{version_of, core_count}
use Rattle.version.specs.declared.SguVersion.{SguVersion}
use Rattle.voices.specs.Accepted.{accepts_core}
use Rattle.voices.specs.Core.{set_core_version}
use Rattle.voices.specs.Writes.{after_ram_write}
use Rattle.voices.specs.declared.Core.{Core}
use Rattle.frames.specs.declared.Asked.{Asked}
use Rattle.frames.specs.declared.Asked.TheVariants.{WriteRegister, WritePcmRam, Read, Peek, Clock, SetVersion, Nothing}
use Rattle.frames.specs.Listing.{Listed, call_as, frames_asked, call_count}
use Rattle.frames.specs.Turning.{Turns, no_turn, frames}
use Rattle.rest.specs.Rest.{rests}
use Rattle.s3w2.specs.declared.Called.{Called}
use Rattle.s3w2.specs.declared.Chip.{Chip}
use Rattle.s3w2.specs.Chips.{core_at}
use Rattle.s3w2.specs.Refusals.{accepts_chip}
use Rattle.chip_sound.specs.Sound.{silent_turns}
use Rattle.chip_lists.specs.Plays.{Playing, play_refusal, play_called, play_left}

-- ---- a list
-- it is not turned away
pub record Lends (kinds addresses : List ℕ) (s : Playing) : Type 0 where
  pub allowed : is_ram_length (length s.ram) ≡ true
  pub lent : length s.queues ≡ chip_queues
  pub accepted : accepts_chip s.chip (length s.ram) ≡ true
  pub enough : length s.stems ≡ stems_per_frame * frames_asked kinds addresses 0 (call_count kinds addresses s.values)
  pub alike : length s.others ≡ length s.stems

-- what it leaves
pub record Leaves (done : Playing) (chip : Chip) (ram : List ℕ) (queues : List ℤ) (values : List ℕ) (stems others : List ℤ) : Type 0 where
  pub chip-is : chip ≡ done.chip
  pub ram-is : ram ≡ done.ram
  pub queues-is : queues ≡ done.queues
  pub values-is : values ≡ done.values
  pub stems-is : stems ≡ done.stems
  pub others-is : others ≡ done.others
  pub accepted : accepts_chip chip (length ram) ≡ true

-- what it answers and leaves, played or turned away
pub record Says (kinds addresses : List ℕ) (s : Playing) (u : Called) (ram : List ℕ) (queues : List ℤ) (values : List ℕ) (stems others : List ℤ) : Type 0 where
  pub called_is : u ≡ play_called kinds addresses s
  pub ram-is : ram ≡ (play_left kinds addresses s).ram
  pub queues-is : queues ≡ (play_left kinds addresses s).queues
  pub values-is : values ≡ (play_left kinds addresses s).values
  pub stems-is : stems ≡ (play_left kinds addresses s).stems
  pub others-is : others ≡ (play_left kinds addresses s).others
  pub accepted : accepts_chip s.chip (length s.ram) ≡ true → accepts_chip u.chip (length s.ram) ≡ true
  pub silent : rests (core_at s.chip 1) ≡ true → is_ok (play_refusal kinds addresses s) ≡ true → others ≡ replicate (length s.others) (pos 0)

-- whether core 0's own list is all, by core 1 and the lengths of what is lent
unfoldable pub is_alone : Core → ℕ → ℕ → ℕ → ℕ → Bool
is_alone second ram queues stems others = is_ram_length ram && (eqb queues chip_queues && (eqb others stems && rests second))

-- ---- whether a call is core 1's too
abbrev pub is_shared : Asked → Bool
is_shared WriteRegister = false
is_shared WritePcmRam = true
is_shared Read = false
is_shared Peek = false
is_shared Clock = true
is_shared SetVersion = true
is_shared Nothing = false

abbrev pub is_clock : Asked → Bool
is_clock WriteRegister = false
is_clock WritePcmRam = false
is_clock Read = false
is_clock Peek = false
is_clock Clock = true
is_clock SetVersion = false
is_clock Nothing = false

-- core 1 after a call, and its stems: it has the RAM and the version in common with core 0; a version that lacks it leaves it as it is
module _ (version : SguVersion) (ram : List ℕ) (queues : List ℤ) where
  abbrev pub second_called : Asked → ℕ → Core → Turns
  second_called WriteRegister address core = no_turn core
  second_called WritePcmRam address core = no_turn (cond (ltb address (length ram)) (after_ram_write core address) core)
  second_called Read address core = no_turn core
  second_called Peek address core = no_turn core
  second_called Clock n core = cond (ltb 1 (core_count version)) (frames version ram queues n core) (silent_turns n core)
  second_called SetVersion number core = no_turn (set_core_version core (version_of number))
  second_called Nothing address core = no_turn core

-- what a list of one call, which asks for t, leaves of it, and of what is lent to both cores
pub record SecondLeaves (kinds addresses : List ℕ) (t : Asked) (s : Listed) (before : List ℤ) (core : Core) (ram : List ℕ) (queues : List ℤ) (values : List ℕ) (others : List ℤ) : Type 0 where
  pub core_is : core ≡ (second_called s.version s.ram s.queues t (get_or addresses 0 0) s.core).core
  pub others-is : others ≡ sets before 0 (second_called s.version s.ram s.queues t (get_or addresses 0 0) s.core).stems
  pub ram-is : ram ≡ (call_as kinds addresses 0 4 t 0 s).ram
  pub queues-is : queues ≡ s.queues
  pub values-is : values ≡ s.values
  pub accepted : accepts_core core (call_as kinds addresses 0 4 t 0 s).version (length s.ram) ≡ true
