-- The states in which a chip accepts a voice's cache. The predictor is an i16 by its type; that the voice is a stream is
-- said where the voice is known.
use Rattle.std.specs.Prelude.{◌≡◌, ℕ, ◌+◌, ◌-◌, ◌*◌, ◌/◌, ◌%◌, ◌≤◌, Bool, true, false, cond, ◌==◌, nat_le, nat_lt, Option, Some, None}
use Rattle.adpcm.specs.declared.Variant.{Variant}
use Rattle.sqv4.specs.Files.{frame_samples_of, frame_size_of}
use Rattle.stream.specs.declared.Info.{Info}
use Rattle.stream.specs.declared.StreamCache.{StreamCache}
use Rattle.stream.specs.Cache.{frames_of}

abbrev pub both : Bool → Bool → Bool
both a b = cond a b false

-- the sizes fit variant and version
unfoldable pub sizes_fit : Variant → Info → Bool
sizes_fit k i =
    both (nat_le 1 i.version) (both (nat_le i.version 3)
    (both (i.frame_samples == frame_samples_of i.version) (i.frame_size == frame_size_of i.version k)))

-- the loop sample is 0 or the first of a fragment below the file's fragment count
unfoldable pub loop_fits : ℕ → ℕ → ℕ → Bool
loop_fits again per frames = cond (again == 0) true (both (again % per == 0) (nat_lt (again / per) frames))

-- a cached fragment stands in the half of its parity and is below the file's fragment count
unfoldable pub half_fits : Option ℕ → ℕ → ℕ → Bool
half_fits None parity frames = true
half_fits (Some f) parity frames = both (f % 2 == parity) (nat_lt f frames)

-- a cache of a file of that many bytes, of a variant
unfoldable pub file_fits : Variant → StreamCache → ℕ → Bool
file_fits k c bytes =
    let i = c.info in
    both (sizes_fit k i) (both (frames_of i * i.frame_size + 16 == bytes)
    (both (loop_fits i.loop_sample i.frame_samples (frames_of i)) (both (nat_le c.decoder.index 88)
    (both (half_fits c.even 0 (frames_of i)) (both (half_fits c.odd 1 (frames_of i)) (nat_le c.next_frame (frames_of i)))))))

abbrev pub held_fits : Option Variant → StreamCache → ℕ → Bool
held_fits None c bytes = false
held_fits (Some k) c bytes = file_fits k c bytes

-- a cache that is not marked valid is accepted; `length` is the RAM's
unfoldable pub accepts_cache : StreamCache → ℕ → ℕ → ℕ → Bool
accepts_cache c start end length =
    cond c.valid (both (nat_lt start end) (both (nat_le end length) (held_fits c.variant c (end - start)))) true

-- ---- the same, as facts
pub record Fit (k : Variant) (c : StreamCache) (bytes : ℕ) : Type 0 where
  pub known : (1 ≤ c.info.version) × (c.info.version ≤ 3)
  pub per : c.info.frame_samples ≡ frame_samples_of c.info.version
  pub size : c.info.frame_size ≡ frame_size_of c.info.version k
  pub long : frames_of c.info * c.info.frame_size + 16 ≡ bytes
  pub again : loop_fits c.info.loop_sample c.info.frame_samples (frames_of c.info) ≡ true
  pub index : c.decoder.index ≤ 88
  pub even : half_fits c.even 0 (frames_of c.info) ≡ true
  pub odd : half_fits c.odd 1 (frames_of c.info) ≡ true
  pub next : c.next_frame ≤ frames_of c.info
