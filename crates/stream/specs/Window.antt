-- What a cache serves without decoding: from a sample on, that sample's fragment and the next one, as far as they are there.
use Rattle.std.specs.Prelude.{ℕ, ◌+◌, ◌-◌, ◌*◌, ◌/◌, ◌%◌, ◌^◌, min, Bool, cond, List, ℤ, pos, nat_lt, slice_index_or, is_some}
use Rattle.sqv4.specs.Files.{frame_samples_of}
use Rattle.tone.specs.Taps.{raised_sample, blend_samples}
use Rattle.stream.specs.declared.StreamCache.{StreamCache}
use Rattle.stream.specs.declared.Window.{Window}
use Rattle.stream.specs.Cache.{cached_at, is_held}

abbrev pub holds_frame : StreamCache → ℕ → Bool
holds_frame c f = is_held (cached_at c (f % 2)) f

-- how many samples from a fragment's first on are in the cache, together with the one after each; no phase reaches a
-- fragment beyond 2^35
unfoldable pub reach_of : StreamCache → ℕ → ℕ
reach_of c frame =
    let per = frame_samples_of c.info.version in
    let left = c.info.sample_count - frame * per in
    cond (nat_lt frame (2 ^ 35))
    (cond c.valid
    (cond (is_some c.variant) (cond (holds_frame c frame) (min (cond (holds_frame c (frame + 1)) (per + per) per) left - 1) 0) 0)
    0)
    0

unfoldable pub window_of : StreamCache → ℕ → Window
window_of c sample =
    let per = frame_samples_of c.info.version in
    let frame = sample / per in
    record {
      first = frame * per;
      per = per;
      reach = reach_of c frame;
      here = 64 * (frame % 2);
      next = 64 * (frame % 2) + (64 - per);
    }

-- in 64 bits, from the window's first sample on
abbrev pub offset_in : Window → ℕ → ℕ
offset_in w sample = (sample + (2 ^ 64 - w.first)) % 2 ^ 64

unfoldable pub serves_at : Window → ℕ → Bool
serves_at w sample = nat_lt (offset_in w sample) w.reach

-- where a sample stands among the voice's 128, and among all
abbrev pub place_in : Window → ℕ → ℕ
place_in w sample = (cond (nat_lt (offset_in w sample) w.per) w.here w.next + offset_in w sample) % 2 ^ 64 % 128

unfoldable pub tap_in : Window → List ℤ → ℕ → ℕ → ℤ
tap_in w samples base sample = slice_index_or samples ((base + place_in w sample) % 2 ^ 64 % 1024) (pos 0)

unfoldable pub value_in : Window → List ℤ → ℕ → ℕ → Bool → ℕ → ℤ
value_in w samples base sample interpolate fraction =
    cond interpolate (blend_samples (tap_in w samples base sample) (tap_in w samples base ((sample + 1) % 2 ^ 64)) fraction)
    (raised_sample (tap_in w samples base sample))
