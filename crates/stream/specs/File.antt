-- A stream voice's file: what the check and the loop address make of its part of the RAM.
use Rattle.std.specs.Prelude.{ℕ, ◌+◌, ◌-◌, ◌*◌, ◌/◌, ◌%◌, Bool, true, false, cond, not, List, length, ◌==◌, nat_le, nat_lt, Option, Some, None, Result, Ok, Err}
use Rattle.adpcm.specs.declared.Variant.{Variant}
use Rattle.num.specs.Lists.{part}
use Rattle.sqv4.specs.declared.Header.{Header}
use Rattle.sqv4.specs.Files.{inspected}
use Rattle.sqv4.specs.declared.InspectError.{InspectError}
use Rattle.stream.specs.declared.Info.{Info}

-- the numbers that a voice keeps of a header, with a loop sample
abbrev pub info_of : Header → ℕ → Info
info_of h again =
    record {
      version = h.version;
      sample_count = h.samples_per_channel;
      frame_samples = h.frame_samples;
      frame_size = h.frame_size;
      loop_sample = again;
    }

-- a loop address is 0, the start, or the address of a fragment
abbrev pub looped : ℕ → ℕ → Header → Option (Variant × Info)
looped start again h =
    let offset = again - (start + 16) in
    cond (cond (again == 0) true (again == start)) (Some (h.variant, info_of h 0))
    (cond (nat_le (start + 16) again)
    (cond (offset % h.frame_size == 0)
    (cond (nat_lt (offset / h.frame_size) h.frame_count) (Some (h.variant, info_of h (offset / h.frame_size * h.frame_samples))) None)
    None)
    None)

-- mono files: version 3 where it is wanted, versions 1 and 2 elsewhere
abbrev pub is_wanted : Bool → ℕ → ℕ → Bool
is_wanted wants channels version = cond (channels == 1) (cond wants (version == 3) (not (version == 3))) false

abbrev pub opened_as : Bool → ℕ → ℕ → Result Header InspectError → Option (Variant × Info)
opened_as wants start again (Ok h) = cond (is_wanted wants h.channels h.version) (looped start again h) None
opened_as wants start again (Err e) = None

-- all that the RAM gives a voice: whether its part is there, and the bytes
pub record Source : Type 0 where
  pub there : Bool
  pub bytes : List ℕ

unfoldable pub source_of : List ℕ → ℕ → ℕ → Source
source_of ram start end = record { there = cond (nat_lt start end) (nat_le end (length ram)) false; bytes = part ram start (end - start) }

-- what `initialize_sqv4` finds
unfoldable pub opened_from : Source → Bool → ℕ → ℕ → Option (Variant × Info)
opened_from src wants start again = cond src.there (opened_as wants start again (inspected src.bytes)) None

abbrev pub opened_in : List ℕ → Bool → ℕ → ℕ → ℕ → Option (Variant × Info)
opened_in ram wants start end again = opened_from (source_of ram start end) wants start again
