-- A stream voice's tick, from what its two calls say; that of a voice that has ended; ticks with a part of the samples.
use Rattle.std.proofs.Common.{◌≡◌, ℕ, ◌+◌, ◌-◌, ◌<◌, ◌≤◌, true, false, List, ◌++◌, length, take, drop, ℤ, sym, ap, ◌∙◌, append_assoc, le-add_right, arith, le-leb}
use lib.Seq.{sets, sets-eq}
use borrow.Rule.Slice.PartMut.{put_mid, Post-is}
use borrow.Author.Tests.{lt-leb}
use Rattle.num.specs.Lists.{part}
use Rattle.tone.specs.Mix.{stream_volume_of}
use Rattle.stream.specs.Cache.{Stock, stock}
use Rattle.stream.specs.Tick.{StreamTick}
use Rattle.stream.specs.Cached.{cached_tick, streamed_of}
use Rattle.stream.specs.declared.Play.{Play}
use Rattle.stream.specs.declared.Streamed.{Streamed}
use Rattle.ticks.specs.Mix.{heard}
use Rattle.ticks.specs.declared.Sides.{Sides}
use Rattle.voice.specs.Streaming.{lent, stream_heard, stream_tick, stream_ticks, stream_ticks_at, placed_at}
use Rattle.voice.specs.declared.StreamSound.{StreamSound}
use Rattle.voice.proofs.Tests.{first-arm, second-arm}

put-part : (l ys : List ℤ) (a n : ℕ) → a + n ≤ length l → length ys ≡ n → put_mid a (a + n - a) l ys ≡ sets l a ys
put-part l ys a n r e =
    ap (λ (z : List ℤ). take a l ++ (ys ++ z)) (Post-is a (a + n) l (le-add_right a n) ∙ ap (λ (m : ℕ). drop (a + m) l) (sym e))
    ∙ sym (append_assoc (take a l) ys (drop (a + length ys) l)) ∙ sym (sets-eq ys l a (omega arith))

module _ (ram : List ℕ) (p : Play) (volume panpot : ℕ) (v : StreamSound) (samples : List ℤ) where
  abbrev next : StreamTick Stock
  next = cached_tick ram p v.voice.phase v.voice.active (stock v.voice.cache samples)

  pub ticked : (voice : Streamed) (sides : Sides) (after : List ℤ) → v.voice.active ≡ true → voice ≡ streamed_of next → after ≡ next.stream.samples
      → sides ≡ heard v.sides (stream_volume_of voice.q8 volume) panpot → lent (record { voice = voice; sides = sides }) after ≡ stream_tick ram p volume panpot (lent v samples)
  unfolding stream_tick
  ticked voice sides after on ev ea es = rw (es, ev, ea) (first-arm _ (stream_heard volume panpot v.sides next) (lent v samples) on)

  pub ended : v.voice.active ≡ false → lent v samples ≡ stream_tick ram p volume panpot (lent v samples)
  unfolding stream_tick
  ended off = second-arm _ (stream_heard volume panpot v.sides next) (lent v samples) off

  pub within : (base n : ℕ) (u : StreamSound) (ys : List ℤ) → base + 128 ≤ length samples → length ys ≡ 128
      → lent u ys ≡ stream_ticks n ram p volume panpot (lent v (take (base + 128 - base) (drop base samples)))
      → lent u (put_mid base (base + 128 - base) samples ys) ≡ stream_ticks_at base n ram p volume panpot (lent v samples)
  unfolding stream_ticks_at
  within base n u ys r e q =
      let k : base + 128 - base ≡ 128 = omega arith in
      ap (lent u) (put-part samples ys base 128 r e)
      ∙ ap (placed_at base samples) (q ∙ ap (λ (m : ℕ). stream_ticks n ram p volume panpot (lent v (take m (drop base samples)))) k)
      ∙ first-arm _ (placed_at base samples (stream_ticks n ram p volume panpot (lent v (part samples base 128)))) (lent v samples) (le-leb (base + 128) (length samples) r)

  pub beyond : (base n : ℕ) → length samples < base + 128 → lent v samples ≡ stream_ticks_at base n ram p volume panpot (lent v samples)
  unfolding stream_ticks_at
  beyond base n h =
      second-arm _ (placed_at base samples (stream_ticks n ram p volume panpot (lent v (part samples base 128)))) (lent v samples) (lt-leb (base + 128) (length samples) h)
