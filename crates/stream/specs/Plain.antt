-- Document 01's plain tick of a stream voice: the file is tested and decoded whole each time.
use Rattle.std.specs.Prelude.{ℕ, Bool, List, [], ℤ, pos, slice_index_or, Option, Some, None, Result, Ok, Err}
use Rattle.stream.specs.declared.Info.{Info}
use Rattle.adpcm.specs.declared.Variant.{Variant}
use Rattle.sqv4.specs.Files.{inspected}
use Rattle.sqv4.specs.Whole.{channel_whole}
use Rattle.stream.specs.declared.Play.{Play}
use Rattle.stream.specs.File.{source_of, opened_from}
use Rattle.sqv4.specs.declared.InspectError.{InspectError}
use Rattle.sqv4.specs.declared.Header.{Header}
use Rattle.stream.specs.Tick.{Given, StreamTick, FoundFile, absent, present, tick_of}

abbrev pub whole_in : List ℕ → Result Header InspectError → List ℤ
whole_in d (Ok h) = channel_whole d h 0
whole_in d (Err e) = []

abbrev pub whole_read : List ℤ → Unit {0} → ℕ → Given (Unit {0})
whole_read samples u at = record { left = tt; sample = slice_index_or samples at (pos 0) }

abbrev pub plain_found : List ℤ → Option (Variant × Info) → FoundFile (Unit {0})
plain_found samples None = absent tt
plain_found samples (Some (k, i)) = present i (whole_read samples) tt

unfoldable pub plain_tick : List ℕ → Play → ℕ → Bool → StreamTick (Unit {0})
plain_tick ram p phase active =
    let src = source_of ram p.start p.end in
    tick_of p phase active (plain_found (whole_in src.bytes (inspected src.bytes)) (opened_from src p.wants_v3 p.start p.loop_addr))
