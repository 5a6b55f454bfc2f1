-- Ticks that the cache serves are ticks of the stream, and those that are not served follow them. Assumes nothing.
use Rattle.std.proofs.Common.{◌≡◌, ℕ, zero, suc, ◌+◌, ◌-◌, ◌%◌, ◌^◌, ◌<◌, ◌≤◌, true, leb, List, length, ℤ, sym, ap, ◌∙◌, subst, arith, le-leb}
use Rattle.num.specs.Lists.{part}
use Rattle.num.proofs.Choice.{cond-by}
use Rattle.tone.specs.Phase.{whole}
use Rattle.stream.specs.Accepted.{accepts_cache}
use Rattle.stream.specs.Window.{window_of, serves_at}
use Rattle.stream.specs.declared.Play.{Play}
use Rattle.stream.specs.declared.StreamCache.{StreamCache}
use Rattle.stream.proofs.Serving.{served-tick}
use Rattle.ticks.specs.Again.{again}
use Rattle.ticks.proofs.Again.{again-more, again-split}
use Rattle.voice.specs.Serving.{serve_tick, served_tick, served_ticks}
use Rattle.voice.specs.Streaming.{Lent, lent, stream_heard, stream_tick, stream_ticks, stream_ticks_at, placed_at}
use Rattle.voice.specs.declared.Served.{Served}
use Rattle.voice.specs.declared.StreamSound.{StreamSound}
use Rattle.voice.proofs.Tests.{first-arm}
use Rattle.frames.proofs.Parts.{part-back}

module _ (c : StreamCache) (from : ℕ) (all : List ℤ) (base : ℕ) (size : length all ≡ 1024) (room : base + 128 ≤ 1024) (ram : List ℕ) (p : Play) (volume panpot : ℕ) (accepted : accepts_cache c p.start p.end (length ram) ≡ true) where
  abbrev own : List ℤ
  own = part all base 128

  abbrev served : ℕ → Served → Served
  served n r = served_ticks n (window_of c from) all base p volume panpot r

  abbrev pub streaming : Served → StreamSound
  streaming r = record { voice = record { cache = c; phase = r.phase; active = true; q8 = r.q8 }; sides = r.sides }

  one : (r : Served) → r.phase < 2 ^ 64 → serves_at (window_of c from) (whole r.phase) ≡ true
      → lent (streaming (serve_tick (window_of c from) all base p volume panpot r)) own ≡ stream_tick ram p volume panpot (lent (streaming r) own)
  unfolding serve_tick stream_tick
  one r small s = ap (stream_heard volume panpot r.sides) (served-tick c from all base size room ram p r.phase true small accepted s)

  -- as many ticks as were served
  pub record Some (n : ℕ) (r₀ r : Served) : Type 0 where
    pub small : r.phase < 2 ^ 64
    pub most : r.ticks ≤ n
    pub same : lent (streaming r) own ≡ stream_ticks r.ticks ram p volume panpot (lent (streaming r₀) own)

  next : (n : ℕ) (r₀ r : Served) → n < 2 ^ 64 - 1 → serves_at (window_of c from) (whole r.phase) ≡ true → Some n r₀ r → Some (suc n) r₀ (serve_tick (window_of c from) all base p volume panpot r)
  unfolding serve_tick stream_ticks
  next n r₀ r h s k =
      let up : (r.ticks + 1) % 2 ^ 64 ≡ r.ticks + 1 = omega (arith, k.most) in
      record {
        small = omega arith;
        most = omega (arith, k.most);
        same = one r k.small s ∙ ap (stream_tick ram p volume panpot) k.same ∙ sym (again-more (stream_tick ram p volume panpot) (lent (streaming r₀) own) r.ticks)
            ∙ ap (λ (m : ℕ). again m (stream_tick ram p volume panpot) (lent (streaming r₀) own)) (sym up);
      }

  pub some : (n : ℕ) (r₀ : Served) → n < 2 ^ 64 → r₀.ticks ≡ 0 → r₀.phase < 2 ^ 64 → Some n r₀ (served n r₀)
  unfolding served_ticks served_tick stream_ticks again
  some zero r₀ h e small = record { small = small; most = omega arith; same = ap (λ (m : ℕ). stream_ticks m ram p volume panpot (lent (streaming r₀) own)) (sym e) }
  some (suc n) r₀ h e small =
      let k = some n r₀ (omega arith) e small in
      cond-by (Some (suc n) r₀) (serves_at (window_of c from) (whole (served n r₀).phase)) _ _
      (λ s. next n r₀ (served n r₀) (omega arith) s k)
      (λ s. record { small = k.small; most = omega (arith, k.most); same = k.same })

  -- all the ticks, in the array where the voice's own samples are
  module _ (n : ℕ) (r₀ r : Served) (bound : n < 2 ^ 64) (none : r₀.ticks ≡ 0) (small : r₀.phase < 2 ^ 64) (is : r ≡ served n r₀) where
    so : Some n r₀ r
    so = subst (Some n r₀) (sym is) (some n r₀ bound none small)

    pub ticks-most : r.ticks ≤ n
    ticks-most = so.most

    rest : stream_ticks n ram p volume panpot (lent (streaming r₀) own) ≡ stream_ticks (n - r.ticks) ram p volume panpot (lent (streaming r) own)
    unfolding stream_ticks
    rest =
        let e : n - r.ticks + r.ticks ≡ n = omega (arith, ticks-most) in
        ap (λ (m : ℕ). again m f (lent (streaming r₀) own)) (sym e) ∙ again-split f (lent (streaming r₀) own) (n - r.ticks) r.ticks ∙ ap (again (n - r.ticks) f) (sym so.same)
      where
        f : Lent → Lent
        f = stream_tick ram p volume panpot

    fits : leb (base + 128) (length all) ≡ true
    fits = le-leb (base + 128) (length all) (omega arith)

    pub rest_at : stream_ticks_at base n ram p volume panpot (lent (streaming r₀) all) ≡ stream_ticks_at base (n - r.ticks) ram p volume panpot (lent (streaming r) all)
    unfolding stream_ticks_at
    rest_at =
        sym (first-arm _ (placed_at base all (stream_ticks n ram p volume panpot (lent (streaming r₀) own))) (lent (streaming r₀) all) fits)
        ∙ ap (placed_at base all) rest
        ∙ first-arm _ (placed_at base all (stream_ticks (n - r.ticks) ram p volume panpot (lent (streaming r) own))) (lent (streaming r) all) fits

    pub all-at : r.ticks ≡ n → stream_ticks_at base n ram p volume panpot (lent (streaming r₀) all) ≡ lent (streaming r) all
    unfolding stream_ticks_at stream_ticks again
    all-at e =
        let z : n - r.ticks ≡ 0 = omega arith in
        rest_at ∙ ap (λ (m : ℕ). stream_ticks_at base m ram p volume panpot (lent (streaming r) all)) z
        ∙ sym (first-arm _ (placed_at base all (lent (streaming r) own)) (lent (streaming r) all) fits)
        ∙ ap (lent (streaming r)) (part-back all base 128 (omega arith))
