-- A tick that the cache serves is the cached tick: it moves the phase alone. Assumes nothing.
use Rattle.std.specs.Prelude.{Some}
use Rattle.std.proofs.Common.{is_some, ◌≡◌, ℕ, ◌+◌, ◌-◌, ◌*◌, ◌/◌, ◌%◌, ◌^◌, ◌<◌, ◌≤◌, Bool, true, false, cond, eqb, ltb, List, length, get_or, drop, ℤ, pos, ◌+ℤ◌, ◌*ℤ◌, sym, refl, ap, ◌∙◌, subst, mod-lt, mul-le-mul, arith, length-drop, length-take, get_or-drop, get_or-take, ltb-true, le-ltb, lt-ltb, eq-eqb, eqb-true}
use native.Mathlib.Decide.{dec_le}
use Rattle.num.specs.Lists.{part}
use Rattle.num.proofs.Integers.{z-eq, z-add, up-mul, down-mul}
use Rattle.sqv4.specs.Files.{frame_samples_of}
use Rattle.tone.specs.Phase.{whole, fraction, stepped}
use Rattle.tone.specs.Taps.{raised_sample, blend_samples}
use Rattle.stream.specs.declared.Info.{Info}
use Rattle.stream.specs.declared.Play.{Play}
use Rattle.stream.specs.declared.StreamCache.{StreamCache}
use Rattle.stream.specs.declared.Window.{Window}
use Rattle.stream.specs.Cache.{Stock, stock}
use Rattle.stream.specs.Accepted.{accepts_cache}
use Rattle.stream.specs.Tick.{Given, StreamTick, plan_of, heard_at}
use Rattle.stream.specs.Cached.{tap_at, cached_read, held_found, cached_tick}
use Rattle.stream.specs.Window.{holds_frame, reach_of, window_of, offset_in, serves_at, place_in, tap_in, value_in}
use Rattle.stream.proofs.Fragments.{samples-range}
use Rattle.stream.proofs.Counts.{by_per}
use Rattle.stream.proofs.Accepts.{AcceptedAs, accepted-as}
use Rattle.stream.proofs.Onward.{ensure-held}
use Rattle.stream.proofs.Heard.{heard-one, heard-two, sampled}
use Rattle.stream.proofs.Founds.{choose, refuse, found-held, tick-by}
use Rattle.stream.proofs.Reaches.{spanned, reach-past, reach-free, reach-none, reach-not, reach-is}

-- ---- a sample's fragment and place, from a fragment's first sample on
module _ (per f d : ℕ) (low : 63 ≤ per) (high : per ≤ 64) where
  near : d < per → ((f * per + d) / per ≡ f) × ((f * per + d) % per ≡ d)
  near = by_per per low high (λ (p : ℕ). d < p → ((f * p + d) / p ≡ f) × ((f * p + d) % p ≡ d)) (λ h. (omega arith, omega arith)) (λ h. (omega arith, omega arith))

  far : per ≤ d → d < per + per → ((f * per + d) / per ≡ f + 1) × ((f * per + d) % per ≡ d - per)
  far = by_per per low high (λ (p : ℕ). p ≤ d → d < p + p → ((f * p + d) / p ≡ f + 1) × ((f * p + d) % p ≡ d - p)) (λ h l. (omega arith, omega arith)) (λ h l. (omega arith, omega arith))

-- a sample at offset d of a fragment's window: its fragment is f or the next one, and its place is that among the 128
pub record Placed (c : StreamCache) (f d place : ℕ) : Type 0 where
  pub held : holds_frame c ((f * frame_samples_of c.info.version + d) / frame_samples_of c.info.version) ≡ true
  pub same : place ≡ 64 * ((f * frame_samples_of c.info.version + d) / frame_samples_of c.info.version % 2) + (f * frame_samples_of c.info.version + d) % frame_samples_of c.info.version

module _ (c : StreamCache) (f : ℕ) where
  abbrev per : ℕ
  per = frame_samples_of c.info.version

  placed : (d : ℕ) → holds_frame c f ≡ true → (per ≤ d → holds_frame c (f + 1) ≡ true) → d < per + per → Placed c f d ((cond (ltb d per) (64 * (f % 2)) (64 * (f % 2) + (64 - per)) + d) % 2 ^ 64 % 128)
  placed d h n l =
      elim (dec_le per d) [
        | yes g ↦ let w = far per f d (samples-range c.info.version).0 (samples-range c.info.version).1 g l in
            record { held = rw w.0 (n g); same = rw (le-ltb d per g, w.0, w.1) (high d (samples-range c.info.version) g l) }
        | no g ↦ let w = near per f d (samples-range c.info.version).0 (samples-range c.info.version).1 (omega arith) in
            record { held = rw w.0 h; same = rw (lt-ltb d per (omega arith), w.0, w.1) (low d (samples-range c.info.version) (omega arith)) }
      ]
    where
      low : (d : ℕ) → (63 ≤ per) × (per ≤ 64) → d < per → (64 * (f % 2) + d) % 2 ^ 64 % 128 ≡ 64 * (f % 2) + d
      low d r h = omega arith

      high : (d : ℕ) → (63 ≤ per) × (per ≤ 64) → per ≤ d → d < per + per → (64 * (f % 2) + (64 - per) + d) % 2 ^ 64 % 128 ≡ 64 * ((f + 1) % 2) + (d - per)
      high d r h l = omega arith

-- ---- what a window that serves a sample says
pub record Serves (c : StreamCache) (f sample offset : ℕ) : Type 0 where
  pub at : sample ≡ f * frame_samples_of c.info.version + offset
  pub valid : c.valid ≡ true
  pub here : holds_frame c f ≡ true
  pub next : frame_samples_of c.info.version ≤ offset + 1 → holds_frame c (f + 1) ≡ true
  pub short : offset + 1 < frame_samples_of c.info.version + frame_samples_of c.info.version
  pub there : sample + 1 < c.info.sample_count
  pub first : f * frame_samples_of c.info.version ≤ 2 ^ 41

first_small : (v f : ℕ) → f < 2 ^ 35 → f * frame_samples_of v ≤ 2 ^ 41
first_small v f h = omega (arith, mul-le-mul {n₁ = f} {m₁ = frame_samples_of v} {n₂ = 2 ^ 35} {m₂ = 64} (omega arith) (samples-range v).1)

pub serves-is : (c : StreamCache) (from sample : ℕ) → sample < 2 ^ 64 → serves_at (window_of c from) sample ≡ true → Serves c (from / frame_samples_of c.info.version) sample (offset_in (window_of c from) sample)
unfolding window_of serves_at
serves-is c from sample small e =
    elim (dec_le (2 ^ 35) f) [
      | yes h ↦ absurd (empty (reach-past c f h) l)
      | no h ↦ go (omega arith) c.valid refl (is_some c.variant) refl (holds_frame c f) refl (holds_frame c (f + 1)) refl
    ]
  where
    f : ℕ
    f = from / frame_samples_of c.info.version

    o : ℕ
    o = offset_in (window_of c from) sample

    l : o < reach_of c f
    l = ltb-true (offset_in (window_of c from) sample) (reach_of c f) e

    empty : {n m : ℕ} → n ≡ 0 → m < n → ⊥
    empty e h = omega arith

    go : f < 2 ^ 35 → (a : Bool) → c.valid ≡ a → (b : Bool) → is_some c.variant ≡ b → (h : Bool) → holds_frame c f ≡ h → (n : Bool) → holds_frame c (f + 1) ≡ n → Serves c f sample o
    go g false v b s h p n q = absurd (empty (reach-free c f g v) l)
    go g true v false s h p n q = absurd (empty (reach-none c f g v s) l)
    go g true v true s false p n q = absurd (empty (reach-not c f g v s p) l)
    go g true v true s true p true q =
        let r : reach_of c f ≡ spanned c f true = reach-is c f g v s p true q in
        let b = first_small c.info.version f g in
        let w = samples-range c.info.version in
        record { at = omega (arith, r, b, w, l); valid = v; here = p; next = λ _. q; short = omega (arith, r, l); there = omega (arith, r, b, w, l); first = b }
    go g true v true s true p false q =
        let r : reach_of c f ≡ spanned c f false = reach-is c f g v s p false q in
        let b = first_small c.info.version f g in
        let w = samples-range c.info.version in
        let n : o + 1 < frame_samples_of c.info.version = omega (arith, r, l) in
        record { at = omega (arith, r, b, w, l); valid = v; here = p; next = λ k. absurd (omega arith); short = omega (arith, w); there = omega (arith, r, b, w, l); first = b }

-- ---- the value
blend-zero : (a b : ℤ) → blend_samples a b 0 ≡ raised_sample a
blend-zero a b =
    z-eq (a *ℤ pos 256 +ℤ b *ℤ pos 0) (a *ℤ pos 256)
    (omega (arith, z-add (a *ℤ pos 256) (b *ℤ pos 0), up-mul b 0, down-mul b 0))

module _ (c : StreamCache) (from : ℕ) (all : List ℤ) (base : ℕ) (size : length all ≡ 1024) (room : base + 128 ≤ 1024) where
  abbrev own : List ℤ
  own = part all base 128

  abbrev window : Window
  window = window_of c from

  abbrev frame : ℕ
  frame = from / frame_samples_of c.info.version

  pub own-length : length own ≡ 128
  own-length = simp (length-take, length-drop) (omega arith)

  -- a tap of the window is the tap of the voice's own samples
  tap-is : (sample place : ℕ) → place_in window sample ≡ place → place < 128 → tap_in window all base sample ≡ get_or own place (pos 0)
  unfolding tap_in
  tap-is sample place e h =
      ap (λ (n : ℕ). get_or all ((base + n) % 2 ^ 64 % 1024) (pos 0)) e
      ∙ ap (λ (n : ℕ). get_or all n (pos 0)) (inside base place room h)
      ∙ sym (get_or-take 128 (drop base all) place (pos 0) h ∙ get_or-drop base all place (pos 0))
    where
      inside : (b p : ℕ) → b + 128 ≤ 1024 → p < 128 → (b + p) % 2 ^ 64 % 1024 ≡ b + p
      inside b p r h = omega arith

  -- a sample at an offset of the window
  placed-in : (sample d : ℕ) → offset_in window sample ≡ d → sample ≡ frame * frame_samples_of c.info.version + d → holds_frame c frame ≡ true → (frame_samples_of c.info.version ≤ d → holds_frame c (frame + 1) ≡ true) → d < frame_samples_of c.info.version + frame_samples_of c.info.version
      → (holds_frame c (sample / frame_samples_of c.info.version) ≡ true) × (tap_in window all base sample ≡ tap_at c.info.version own sample)
  unfolding window_of
  placed-in sample d o e h n l =
      let w = placed c frame d h n l in
      let q : place_in window sample ≡ 64 * (sample / per c frame % 2) + sample % per c frame = ap (λ (x : ℕ). (cond (ltb x (per c frame)) (64 * (frame % 2)) (64 * (frame % 2) + (64 - per c frame)) + x) % 2 ^ 64 % 128) o ∙ w.same ∙ ap (λ (x : ℕ). 64 * (x / per c frame % 2) + x % per c frame) (sym e) in
      (subst (λ (x : ℕ). holds_frame c (x / per c frame) ≡ true) (sym e) w.held, tap-is sample _ q (below sample (samples-range c.info.version)))
    where
      below : (x : ℕ) → (63 ≤ per c frame) × (per c frame ≤ 64) → 64 * (x / per c frame % 2) + x % per c frame < 128
      below x r = omega (arith, mod-lt x {m = per c frame} (omega arith))

  -- ---- the tick
  module _ (ram : List ℕ) (p : Play) (phase : ℕ) (active : Bool) (small : phase < 2 ^ 64) (accepted : accepts_cache c p.start p.end (length ram) ≡ true) (serves : serves_at window (whole phase) ≡ true) where
    abbrev info : Info
    info = c.info

    abbrev file : List ℕ
    file = part ram p.start (p.end - p.start)

    abbrev at : ℕ
    at = whole phase

    seen : Serves c frame at (offset_in window at)
    seen = serves-is c from at (omega arith) serves

    taken : AcceptedAs c p.start p.end (length ram)
    taken = accepted-as c p.start p.end (length ram) accepted seen.valid

    next-offset : offset_in window (at + 1) ≡ offset_in window at + 1
    unfolding window_of
    next-offset = omega (arith, seen.at, seen.first, seen.short, samples-range info.version)

    here : (holds_frame c (at / frame_samples_of info.version) ≡ true) × (tap_in window all base at ≡ tap_at info.version own at)
    here = placed-in at (offset_in window at) refl seen.at seen.here (λ h. seen.next (omega arith)) (omega (arith, seen.short))

    after : (holds_frame c ((at + 1) / frame_samples_of info.version) ≡ true) × (tap_in window all base (at + 1) ≡ tap_at info.version own (at + 1))
    after = placed-in (at + 1) (offset_in window at + 1) next-offset (omega (arith, seen.at)) seen.here seen.next seen.short

    -- a read of a fragment that is there changes nothing
    read_held : (n : ℕ) → holds_frame c (n / frame_samples_of info.version) ≡ true → ◌≡◌ {A = Given Stock} (record { left = stock c own; sample = tap_at info.version own n }) (cached_read file taken.variant info (stock c own) n)
    unfolding cached_read
    read_held n h =
        let e = sym (ensure-held file taken.variant info (stock c own) (n / frame_samples_of info.version) h) in
        λ j. record { left = e j; sample = tap_at info.version (e j).samples n }

    abbrev value : ℤ
    value = value_in window all base at p.interpolate (fraction phase)

    heard : ◌≡◌ {A = Given Stock} (record { left = stock c own; sample = value }) (heard_at (cached_read file taken.variant info) info p (fraction phase) (stock c own) at)
    unfolding value_in
    heard = go p.interpolate refl (eqb (fraction phase) 0) refl
      where
        a : ℤ
        a = tap_at info.version own at

        b : ℤ
        b = tap_at info.version own (at + 1)

        wraps : (at + 1) % 2 ^ 64 ≡ at + 1
        wraps = omega arith

        blended : p.interpolate ≡ true → value ≡ blend_samples a b (fraction phase)
        blended i =
            choose p.interpolate _ _ i
            ∙ (λ j. blend_samples (here.1 j) ((ap (tap_in window all base) wraps ∙ after.1) j) (fraction phase))

        go : (i : Bool) → p.interpolate ≡ i → (z : Bool) → eqb (fraction phase) 0 ≡ z → ◌≡◌ {A = Given Stock} (record { left = stock c own; sample = value }) (heard_at (cached_read file taken.variant info) info p (fraction phase) (stock c own) at)
        go false i z q =
            heard-one (cached_read file taken.variant info) info p (fraction phase) (stock c own) at (record { left = stock c own; sample = a }) (read_held at here.0)
            (refuse p.interpolate _ _ i) value (refuse p.interpolate _ _ i ∙ ap raised_sample here.1)
        go true i true q =
            heard-one (cached_read file taken.variant info) info p (fraction phase) (stock c own) at (record { left = stock c own; sample = a }) (read_held at here.0)
            (choose p.interpolate _ _ i ∙ choose (eqb (fraction phase) 0) _ _ q) value (blended i ∙ ap (blend_samples a b) (eqb-true (fraction phase) 0 q) ∙ blend-zero a b)
        go true i false q =
            heard-two (cached_read file taken.variant info) info p (fraction phase) (stock c own) at (record { left = stock c own; sample = a }) (read_held at here.0)
            (choose p.interpolate _ _ i ∙ refuse (eqb (fraction phase) 0) _ _ q ∙ lt-ltb (at + 1) info.sample_count seen.there)
            (record { left = stock c own; sample = b }) (read_held (at + 1) after.0) value (blended i)

    plan-is : plan_of info p phase ≡ Some (at, phase)
    unfolding plan_of
    plan-is = choose (ltb at info.sample_count) _ _ (lt-ltb at info.sample_count (omega (arith, seen.there)))

    -- a tick that the window serves: the cache and its samples stay, the phase steps, and the value is the window's
    pub served-tick : ◌≡◌ {A = StreamTick Stock} (record { stream = stock c own; phase = stepped phase p.step; active = active; value = value }) (cached_tick ram p phase active (stock c own))
    served-tick =
        sampled file (record { cache = c; phase = phase; active = active; q8 = pos 0 }) own p taken.variant taken.held at phase (fraction phase) (record { left = stock c own; sample = value }) (stepped phase p.step) plan-is refl heard refl
        ∙ tick-by ram p (stock c own) phase active (held_found file (stock c own) c.variant) (found-held ram p (stock c own) (eq-eqb (length own) 128 own-length) seen.valid accepted)
