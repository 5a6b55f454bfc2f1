-- A stream voice's tick with the cache.
use Rattle.std.specs.Prelude.{ℕ, ◌+◌, ◌*◌, ◌/◌, ◌%◌, Bool, cond, List, length, replicate, ℤ, pos, ◌==◌, slice_index_or, Option, Some, None}
use Rattle.adpcm.specs.declared.Variant.{Variant}
use Rattle.sqv4.specs.Files.{frame_samples_of}
use Rattle.stream.specs.declared.Info.{Info}
use Rattle.stream.specs.declared.Play.{Play}
use Rattle.stream.specs.declared.Streamed.{Streamed}
use Rattle.stream.specs.File.{source_of, opened_from}
use Rattle.stream.specs.Cache.{Stock, stock, emptied, filled_with, ensure_in}
use Rattle.stream.specs.Accepted.{accepts_cache}
use Rattle.stream.specs.Tick.{Given, StreamTick, FoundFile, absent, unheard, present, tick_of}

-- a decoded sample, where its fragment is in its half
abbrev pub tap_at : ℕ → List ℤ → ℕ → ℤ
tap_at version samples at = slice_index_or samples (64 * (at / frame_samples_of version % 2) + at % frame_samples_of version) (pos 0)

-- its fragment is ensured first
unfoldable pub cached_read : List ℕ → Variant → Info → Stock → ℕ → Given Stock
cached_read d k i s at =
    let e = ensure_in d k i s (at / frame_samples_of i.version) in
    record { left = e; sample = tap_at i.version e.samples at }

-- a cache without a variant is not heard
abbrev pub held_found : List ℕ → Stock → Option Variant → FoundFile Stock
held_found d s None = unheard s
held_found d s (Some k) = present s.cache.info (cached_read d k s.cache.info) s

abbrev pub fresh_found : List ℕ → List ℤ → Option (Variant × Info) → FoundFile Stock
fresh_found d samples None = absent (stock emptied (replicate (length samples) (pos 0)))
fresh_found d samples (Some (k, i)) = held_found d (stock (filled_with k i) samples) (Some k)

-- a cache that is not accepted, or that has not its 128 samples, is not heard
unfoldable pub cached_found : List ℕ → Play → Stock → FoundFile Stock
cached_found ram p s =
    let src = source_of ram p.start p.end in
    cond (length s.samples == 128)
    (cond s.cache.valid
    (cond (accepts_cache s.cache p.start p.end (length ram)) (held_found src.bytes s s.cache.variant) (unheard s))
    (fresh_found src.bytes s.samples (opened_from src p.wants_v3 p.start p.loop_addr)))
    (unheard s)

unfoldable pub cached_tick : List ℕ → Play → ℕ → Bool → Stock → StreamTick Stock
cached_tick ram p phase active s = tick_of p phase active (cached_found ram p s)

-- the voice's parts after it
abbrev pub streamed_of : StreamTick Stock → Streamed
streamed_of t = record { cache = t.stream.cache; phase = t.phase; active = t.active; q8 = t.value }
