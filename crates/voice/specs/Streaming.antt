-- A stream voice's ticks, one after the other.
use Rattle.std.specs.Prelude.{ℕ, ◌+◌, cond, List, length, ℤ, nat_le}
use Rattle.std.proofs.lemmas.List.Edits.{sets}
use Rattle.num.specs.Lists.{part}
use Rattle.tone.specs.Mix.{stream_volume_of}
use Rattle.stream.specs.Cache.{Stock, stock}
use Rattle.stream.specs.Tick.{StreamTick}
use Rattle.stream.specs.Cached.{cached_tick, streamed_of}
use Rattle.stream.specs.declared.Play.{Play}
use Rattle.ticks.specs.Again.{again}
use Rattle.ticks.specs.Mix.{heard}
use Rattle.ticks.specs.declared.Sides.{Sides}
use Rattle.voice.specs.declared.StreamSound.{StreamSound}

-- a stream's sound with the decoded samples that are lent beside it
pub record Lent : Type 0 where
  pub sound : StreamSound
  pub samples : List ℤ

abbrev pub lent : StreamSound → List ℤ → Lent
lent v samples = record { sound = v; samples = samples }

-- a tick's value on the sides, by volume and panpot
abbrev pub stream_heard : ℕ → ℕ → Sides → StreamTick Stock → Lent
stream_heard volume panpot sides t =
    lent (record { voice = streamed_of t; sides = heard sides (stream_volume_of t.value volume) panpot }) t.stream.samples

module _ (ram : List ℕ) (p : Play) (volume panpot : ℕ) where
  -- a voice that has ended is silent
  unfoldable pub stream_tick : Lent → Lent
  stream_tick s =
      let v = s.sound.voice in
      cond v.active (stream_heard volume panpot s.sound.sides (cached_tick ram p v.phase v.active (stock v.cache s.samples))) s

unfoldable pub stream_ticks : ℕ → List ℕ → Play → ℕ → ℕ → Lent → Lent
stream_ticks n ram p volume panpot s = again n (stream_tick ram p volume panpot) s

-- ticks with a voice's own decoded samples, 128 from a base on; a base without as many is none
abbrev pub placed_at : ℕ → List ℤ → Lent → Lent
placed_at base samples s = lent s.sound (sets samples base s.samples)

unfoldable pub stream_ticks_at : ℕ → ℕ → List ℕ → Play → ℕ → ℕ → Lent → Lent
stream_ticks_at base n ram p volume panpot s =
    cond (nat_le (base + 128) (length s.samples)) (placed_at base s.samples (stream_ticks n ram p volume panpot (lent s.sound (part s.samples base 128)))) s
