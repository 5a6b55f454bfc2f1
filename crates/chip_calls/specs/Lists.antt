-- The single calls that a list stands for.
use Rattle.std.specs.Prelude.{List, [], ◌∷◌, ◌++◌, ℕ, zero, suc, ◌*◌, ℤ, pos, get_or, replicate}
use Rattle.cores.specs.Sizes.{chip_stems}
use Rattle.version.specs.Versions.{version_of}
use Rattle.frames.specs.declared.Asked.{Asked}
use Rattle.frames.specs.declared.Asked.TheVariants.{WriteRegister, WritePcmRam, Read, Peek, Clock, SetVersion, Nothing}
use Rattle.frames.specs.Listing.{asked_of}
use Rattle.chip_lists.specs.Plays.{Playing, calls_played}
use Rattle.call_lists.specs.Calls.{Call, set_version, write_register, read_register, peek_register, write_pcm_ram, clock}

-- the stems that are lent to a clock of n frames
abbrev pub clear_stems : ℕ → List ℤ
clear_stems n = replicate (chip_stems * n) (pos 0)

-- ---- a list of calls: the call that call i stands for, none where it asks for nothing; registers are core 0's
module _ (kinds addresses : List ℕ) where
  abbrev pub single_call : Asked → ℕ → Playing → List Call
  single_call WriteRegister i s = write_register 0 (get_or addresses i 0) (get_or s.values i 0) ∷ []
  single_call WritePcmRam i s = write_pcm_ram (get_or addresses i 0) (get_or s.values i 0) ∷ []
  single_call Read i s = read_register 0 (get_or addresses i 0) ∷ []
  single_call Peek i s = peek_register 0 (get_or addresses i 0) ∷ []
  single_call Clock i s = clock (get_or addresses i 0) (clear_stems (get_or addresses i 0)) ∷ []
  single_call SetVersion i s = set_version (version_of (get_or addresses i 0)) ∷ []
  single_call Nothing i s = []

  -- the first n; a value is what the calls before it have left in its place
  unfoldable pub single_calls : ℕ → Playing → List Call
  single_calls zero s = []
  single_calls (suc n) s = single_calls n s ++ single_call (asked_of (get_or kinds n 0)) n (calls_played kinds addresses n s)
