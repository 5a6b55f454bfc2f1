-- A list of calls on eight voices, one after the other: kinds, addresses and values, one of each a call.
use Rattle.std.specs.Prelude.{◌≡◌, ℕ, zero, suc, ◌+◌, ◌*◌, ◌<◌, ◌≤◌, min, Bool, true, false, cond, ◌&&◌, Option, Some, None, List, [], ◌++◌, length, ℤ, ◌==◌, nat_lt, slice_index, slice_set}
use Rattle.std.proofs.lemmas.List.Edits.{sets}
use Rattle.sizes.specs.Sizes.{num_channels, stems_per_frame}
use Rattle.version.specs.Versions.{version_of}
use Rattle.version.specs.declared.SguVersion.{SguVersion}
use Rattle.voices.specs.Accepted.{accepts_core, AcceptedCore}
use Rattle.voices.specs.Core.{set_core_version}
use Rattle.voices.specs.Reads.{peek_register, after_read_register}
use Rattle.voices.specs.Writes.{write_register, write_register_queues, after_ram_write}
use Rattle.voices.specs.declared.Core.{Core}
use Rattle.frames.specs.declared.Asked.{Asked}
use Rattle.frames.specs.declared.Going.{Going}
use Rattle.frames.specs.declared.Played.{Played}
use Rattle.frames.specs.declared.Asked.TheVariants.{WriteRegister, WritePcmRam, Read, Peek, Clock, SetVersion, Nothing}
use Rattle.frames.specs.Turning.{Turns, turned, may_run}

-- ---- the kinds by number
abbrev pub write_register_kind : ℕ
write_register_kind = 0

abbrev pub write_pcm_ram_kind : ℕ
write_pcm_ram_kind = 1

abbrev pub read_register_kind : ℕ
read_register_kind = 2

abbrev pub peek_register_kind : ℕ
peek_register_kind = 3

abbrev pub clock_kind : ℕ
clock_kind = 4

abbrev pub set_version_kind : ℕ
set_version_kind = 5

-- what a call asks for
unfoldable pub asked_of : ℕ → Asked
asked_of kind =
    cond (kind == write_register_kind) WriteRegister
    (cond (kind == write_pcm_ram_kind) WritePcmRam
    (cond (kind == read_register_kind) Read
    (cond (kind == peek_register_kind) Peek
    (cond (kind == clock_kind) Clock
    (cond (kind == set_version_kind) SetVersion Nothing)))))

-- the frames that it clocks
abbrev pub clocked_as : Asked → ℕ → ℕ
clocked_as WriteRegister address = 0
clocked_as WritePcmRam address = 0
clocked_as Read address = 0
clocked_as Peek address = 0
clocked_as Clock address = address
clocked_as SetVersion address = 0
clocked_as Nothing address = 0

-- eight voices, what is lent to them, and the stems that they have given
pub record Listed : Type 0 where
  pub core : Core
  pub version : SguVersion
  pub ram : List ℕ
  pub queues : List ℤ
  pub values : List ℕ
  pub stems : List ℤ

abbrev pub lent_list : Core → SguVersion → List ℕ → List ℤ → List ℕ → Listed
lent_list core version ram queues values = record { core = core; version = version; ram = ram; queues = queues; values = values; stems = [] }

-- what a function answers of them, after a list, and after some of its calls, with the place behind their stems
abbrev pub after_list : Listed → Option Played
after_list s = Some (record { core = s.core; version = s.version })

abbrev pub after_calls : Listed → ℕ → Going
after_calls s at = record { core = s.core; version = s.version; at = at }

-- what is left of what was lent; the stems stand from `at` on in a buffer that was `before`
pub record LeftBy (s : Listed) (at : ℕ) (before : List ℤ) (ram : List ℕ) (queues : List ℤ) (values : List ℕ) (stems : List ℤ) : Type 0 where
  pub ram_is : ram ≡ s.ram
  pub queues_is : queues ≡ s.queues
  pub values_is : values ≡ s.values
  pub stems_is : stems ≡ sets before at s.stems

-- the voices are accepted, under the version that they then have
abbrev pub AcceptedAfter : Listed → ℕ → Type 0
AcceptedAfter s ram = accepts_core s.core s.version ram ≡ true

-- after some turns
abbrev pub with_turns : Listed → Turns → Listed
with_turns s t = record { core = t.core; version = s.version; ram = s.ram; queues = s.queues; values = s.values; stems = s.stems ++ t.stems }

-- k turns of n ticks each, from voice `first` on
abbrev pub clock_turns : ℕ → ℕ → ℕ → Listed → Listed
clock_turns first n k s = with_turns s (turned s.version s.ram s.queues first n k s.core)

-- voices and queue entries after a register was written
abbrev pub written : Listed → ℕ → ℕ → Listed
written s address value = record {
  core = write_register s.version s.core address value;
  version = s.version;
  ram = s.ram;
  queues = write_register_queues s.version s.core s.queues address value;
  values = s.values;
  stems = s.stems;
}

-- a byte of the RAM; an address past its end is none
abbrev pub byte_stored : Listed → ℕ → ℕ → Listed
byte_stored s address value = record {
  core = cond (nat_lt address (length s.ram)) (after_ram_write s.core address) s.core;
  version = s.version;
  ram = slice_set s.ram address value;
  queues = s.queues;
  values = s.values;
  stems = s.stems;
}

-- a register looked at by call i: the byte stands in the place of the call's value
abbrev pub looked : Listed → ℕ → ℕ → Bool → Listed
looked s i address is_read = record {
  core = cond is_read (after_read_register s.core address) s.core;
  version = s.version;
  ram = s.ram;
  queues = s.queues;
  values = slice_set s.values i (peek_register s.version s.core address);
  stems = s.stems;
}

abbrev pub under_version : Listed → SguVersion → Listed
under_version s version = record {
  core = set_core_version s.core version;
  version = version;
  ram = s.ram;
  queues = s.queues;
  values = s.values;
  stems = s.stems;
}

module _ (kinds addresses : List ℕ) where
  module _ (first n : ℕ) where
    -- call i
    abbrev pub call_as : Asked → ℕ → Listed → Listed
    call_as WriteRegister i s = written s (slice_index addresses i) (slice_index s.values i)
    call_as WritePcmRam i s = byte_stored s (slice_index addresses i) (slice_index s.values i)
    call_as Read i s = looked s i (slice_index addresses i) true
    call_as Peek i s = looked s i (slice_index addresses i) false
    call_as Clock i s = clock_turns first n (num_channels * slice_index addresses i) s
    call_as SetVersion i s = under_version s (version_of (slice_index addresses i))
    call_as Nothing i s = s

    -- m calls, from call `from` on
    unfoldable pub listed : ℕ → ℕ → Listed → Listed
    listed from zero s = s
    listed from (suc m) s = call_as (asked_of (slice_index kinds (from + m))) (from + m) (listed from m s)

    -- before each of them the voices are accepted
    abbrev pub EachAccepted : ℕ → ℕ → Listed → Type 0
    EachAccepted from m s = (j : ℕ) → j < m → AcceptedCore (listed from j s).core (listed from j s).version (length s.ram)

  -- the frames that call i clocks, and m calls from call `from` on
  abbrev pub clocked_by : ℕ → ℕ
  clocked_by i = clocked_as (asked_of (slice_index kinds i)) (slice_index addresses i)

  unfoldable pub frames_asked : ℕ → ℕ → ℕ
  frames_asked from zero = 0
  frames_asked from (suc m) = frames_asked from m + clocked_by (from + m)

  -- the calls from `from` to before `to` all write to the RAM, or none does
  abbrev pub AllStore : Bool → ℕ → ℕ → Type 0
  AllStore stores from to = (j : ℕ) → from ≤ j → j < to → (slice_index kinds j == write_pcm_ram_kind) ≡ stores

-- the calls of a list: as many as there are kinds, addresses and values
abbrev pub call_count : List ℕ → List ℕ → List ℕ → ℕ
call_count kinds addresses values = min (length kinds) (min (length addresses) (length values))

-- what a list asks for: 16,384 queue entries, accepted voices, 16 stems for each frame that it clocks; `stems` is the stem buffer's length
unfoldable pub may_play : List ℕ → List ℕ → ℕ → Listed → Bool
may_play kinds addresses stems s =
    may_run s.version s.ram s.queues 4 s.core
    && stems == stems_per_frame * frames_asked kinds addresses 0 (call_count kinds addresses s.values)

-- a list that asks for something else is not played
unfoldable pub played_of : List ℕ → List ℕ → ℕ → Listed → Listed
played_of kinds addresses stems s =
    cond (may_play kinds addresses stems s) (listed kinds addresses 0 4 0 (call_count kinds addresses s.values) s) s

unfoldable pub play_answer : List ℕ → List ℕ → ℕ → Listed → Option Played
play_answer kinds addresses stems s = cond (may_play kinds addresses stems s) (after_list (played_of kinds addresses stems s)) None
