-- Ticks that are served: one of them, one more, and none after one that is not served.
use Rattle.std.proofs.Common.{◌≡◌, ℕ, zero, suc, ◌+◌, ◌-◌, ◌%◌, ◌^◌, ◌≤◌, true, false, List, ℤ, sym, refl, ap, ◌∙◌, arith}
use Rattle.tone.specs.Phase.{whole, fraction, stepped}
use Rattle.tone.specs.Mix.{stream_volume_of}
use Rattle.stream.specs.Window.{serves_at, value_in}
use Rattle.stream.specs.declared.Play.{Play}
use Rattle.stream.specs.declared.Window.{Window}
use Rattle.ticks.specs.Again.{again}
use Rattle.ticks.specs.Mix.{heard}
use Rattle.ticks.specs.declared.Sides.{Sides}
use Rattle.ticks.proofs.Again.{again-more, again-split}
use Rattle.voice.specs.Serving.{serve_tick, served_tick, served_ticks}
use Rattle.voice.specs.declared.Served.{Served}
use Rattle.voice.proofs.Tests.{first-arm, second-arm}

still : {A : Type 0} (f : A → A) (x : A) → f x ≡ x → (n : ℕ) → again n f x ≡ x
unfolding again
still f x e zero = refl
still f x e (suc n) = ap f (still f x e n) ∙ e

module _ (w : Window) (samples : List ℤ) (base : ℕ) (p : Play) (volume panpot : ℕ) (r : Served) where
  pub served : (value : ℤ) (sides : Sides) (ticks phase at frac : ℕ) → at ≡ whole r.phase → frac ≡ fraction r.phase → value ≡ value_in w samples base at p.interpolate frac
      → sides ≡ heard r.sides (stream_volume_of value volume) panpot → ticks ≡ (r.ticks + 1) % 2 ^ 64 → phase ≡ stepped r.phase p.step
      → ◌≡◌ {A = Served} (record { ticks = ticks; phase = phase; q8 = value; sides = sides }) (serve_tick w samples base p volume panpot r)
  unfolding serve_tick
  served value sides ticks phase at frac ea ef ev es et ep = rw (es, ev, et, ep, ea, ef)

  abbrev f : Served → Served
  f = served_tick w samples base p volume panpot

  pub goes : (v u : Served) (k : ℕ) → serves_at w (whole v.phase) ≡ true → v ≡ served_ticks k w samples base p volume panpot r → u ≡ serve_tick w samples base p volume panpot v
      → u ≡ served_ticks (k + 1) w samples base p volume panpot r
  unfolding served_tick served_ticks
  goes v u k on ev eu = eu ∙ first-arm _ (serve_tick w samples base p volume panpot v) v on ∙ ap f ev ∙ sym (again-more f r k)

  pub stays : (v : Served) (k n : ℕ) → serves_at w (whole v.phase) ≡ false → v ≡ served_ticks k w samples base p volume panpot r → k ≤ n
      → v ≡ served_ticks n w samples base p volume panpot r
  unfolding served_tick served_ticks
  stays v k n off ev h =
      let e : n - k + k ≡ n = omega arith in
      sym (still f v (sym (second-arm _ (serve_tick w samples base p volume panpot v) v off)) (n - k)) ∙ ap (again (n - k) f) ev ∙ sym (again-split f r (n - k) k) ∙ ap (λ (m : ℕ). again m f r) e
