-- What the tick of a valid cache asks for.
use Rattle.std.specs.Prelude.{◌≡◌, ℕ, ◌<◌, List, Some}
use Rattle.adpcm.specs.declared.Variant.{Variant}
use Rattle.stream.specs.declared.StreamCache.{StreamCache}
use Rattle.stream.specs.declared.Streamed.{Streamed}
use Rattle.stream.specs.Cache.{Stock, Plays}
use Rattle.stream.specs.Tick.{Given}

-- its numbers fit the file's bytes, and its loop sample is one of the file's
pub record Ready (d : List ℕ) (c : StreamCache) : Type 0 where
  pub plays : (k : Variant) → c.variant ≡ Some k → Plays d k c.info
  pub again : 0 < c.info.sample_count → c.info.loop_sample < c.info.sample_count

-- the voice with a value and the cache after it
abbrev pub with_given : Streamed → Given Stock → Streamed
with_given v h = record { cache = h.left.cache; phase = v.phase; active = v.active; q8 = h.sample }
