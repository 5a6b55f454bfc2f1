-- Ticks of a stream voice that its cache serves without decoding.
use Rattle.std.specs.Prelude.{ℕ, ◌+◌, ◌%◌, ◌^◌, cond, List, ℤ}
use Rattle.tone.specs.Phase.{whole, fraction, stepped}
use Rattle.tone.specs.Mix.{stream_volume_of}
use Rattle.stream.specs.Window.{serves_at, value_in}
use Rattle.stream.specs.declared.Play.{Play}
use Rattle.stream.specs.declared.Window.{Window}
use Rattle.ticks.specs.Again.{again}
use Rattle.ticks.specs.Mix.{heard}
use Rattle.voice.specs.declared.Served.{Served}

module _ (w : Window) (samples : List ℤ) (base : ℕ) (p : Play) (volume panpot : ℕ) where
  unfoldable pub serve_tick : Served → Served
  serve_tick r =
      let value = value_in w samples base (whole r.phase) p.interpolate (fraction r.phase) in
      record { ticks = (r.ticks + 1) % 2 ^ 64; phase = stepped r.phase p.step; q8 = value; sides = heard r.sides (stream_volume_of value volume) panpot }

  -- one that is not served changes nothing, nor do those after it
  unfoldable pub served_tick : Served → Served
  served_tick r = cond (serves_at w (whole r.phase)) (serve_tick r) r

-- at most n ticks, as long as they are served
unfoldable pub served_ticks : ℕ → Window → List ℤ → ℕ → Play → ℕ → ℕ → Served → Served
served_ticks n w samples base p volume panpot r = again n (served_tick w samples base p volume panpot) r
