-- Every tick leaves an accepted cache accepted, coherent or not, and the samples as many as they were. Assumes nothing.
use Rattle.std.specs.Prelude.{Option, Some, None}
use Rattle.std.proofs.Common.{◌≡◌, ℕ, zero, suc, ◌+◌, ◌-◌, ◌*◌, ◌/◌, ◌%◌, ◌<◌, ◌≤◌, Bool, true, false, eqb, ltb, List, length, ℤ, pos, sym, refl, ◌∙◌, subst, arith, ltb-false, lt-ltb, eq-eqb, eqb-true}
use lib.ListN.{length-replicate}
use lib.Seq.{length-sets}
use borrow.Author.Tests.{eqb-false}
use Rattle.num.specs.Lists.{part}
use Rattle.num.proofs.Choice.{cond-by}
use Rattle.adpcm.specs.declared.Variant.{Variant}
use Rattle.adpcm.specs.declared.State.{State}
use Rattle.sqv4.specs.Files.{frame_samples_of}
use Rattle.tone.specs.Phase.{fraction}
use Rattle.stream.specs.declared.Info.{Info}
use Rattle.stream.specs.declared.Play.{Play}
use Rattle.stream.specs.declared.StreamCache.{StreamCache}
use Rattle.stream.specs.File.{opened_in}
use Rattle.stream.specs.Cache.{Stock, stock, emptied, filled_with, rewound_from, cached_at, is_held, stored_as, Plays, frames_of, fragment_samples, fragment_state, load, step, steps, ensure}
use Rattle.stream.specs.Accepted.{half_fits, accepts_cache, Fit}
use Rattle.stream.specs.Tick.{Given, StreamTick, FoundFile, unheard, plan_of, blends, heard_at, played_by, tick_of}
use Rattle.stream.specs.Cached.{cached_read, held_found, fresh_found, cached_found, cached_tick}
use Rattle.stream.proofs.Fragments.{frame-there}
use Rattle.stream.proofs.Counts.{both_is}
use Rattle.stream.proofs.Indexes.{index-small}
use Rattle.stream.proofs.Accepts.{AcceptedAs, accepted-as, as-accepted, accepts-free, accepted-ready}
use Rattle.stream.proofs.Openings.{opened-accepted}
use Rattle.stream.proofs.Heard.{Asks, plan-asks, mixes-next}
use Rattle.stream.proofs.Founds.{found-short, found-held, found-fresh, tick-by}

frame-fits : (f parity frames : ℕ) → f % 2 ≡ parity → f < frames → half_fits (Some f) parity frames ≡ true
unfolding half_fits
frame-fits f parity frames e l = both_is _ _ (eq-eqb (f % 2) parity e) (lt-ltb f frames l)

-- a fragment of the file in its half
stored-fit : (k : Variant) (c : StreamCache) (bytes f n : ℕ) (d : State) → Fit k c bytes → f < frames_of c.info → n ≤ frames_of c.info → d.index ≤ 88 → Fit k (stored_as c f n d) bytes
unfolding stored_as
stored-fit k c bytes f n d w l m h =
    record {
      known = w.known;
      per = w.per;
      size = w.size;
      long = w.long;
      again = w.again;
      index = h;
      even = cond-by (λ (x : Option ℕ). half_fits x 0 (frames_of c.info) ≡ true) (eqb (f % 2) 0) (Some f) c.even (λ e. frame-fits f 0 _ (eqb-true (f % 2) 0 e) l) (λ e. w.even);
      odd = cond-by (λ (x : Option ℕ). half_fits x 1 (frames_of c.info) ≡ true) (eqb (f % 2) 0) c.odd (Some f) (λ e. w.odd) (λ e. frame-fits f 1 _ (one (eqb-false (f % 2) 0 e)) l);
      next = m;
    }
  where
    one : (f % 2 ≡ 0 → ⊥) → f % 2 ≡ 1
    one h = omega arith

info-stored : (c : StreamCache) (f n : ℕ) (d : State) → (stored_as c f n d).info ≡ c.info
unfolding stored_as
info-stored c f n d = refl

next-stored : (c : StreamCache) (f n : ℕ) (d : State) → (stored_as c f n d).next_frame ≡ n
unfolding stored_as
next-stored c f n d = refl

variant-stored : (c : StreamCache) (f n : ℕ) (d : State) → (stored_as c f n d).variant ≡ c.variant
unfolding stored_as
variant-stored c f n d = refl

none : (parity frames : ℕ) → half_fits None parity frames ≡ true
unfolding half_fits
none parity frames = refl

module _ (d : List ℕ) (k : Variant) (i : Info) (bytes size : ℕ) where
  abbrev alone : Bool
  alone = eqb i.version 3

  abbrev from : State → ℕ → List ℤ
  from = fragment_samples d k i

  abbrev next : State → ℕ → State
  next = fragment_state d k i

  -- a stock whose cache fits, with that variant, those numbers and so many samples
  pub record Fits (s : Stock) : Type 0 where
    pub fit : Fit k s.cache bytes
    pub info : s.cache.info ≡ i
    pub held : s.cache.variant ≡ Some k
    pub long : length s.samples ≡ size

  below : {x : Info} {f : ℕ} → x ≡ i → f < frames_of i → f < frames_of x
  below {x} {f} e l = subst (λ (y : Info). f < frames_of y) (sym e) l

  record Stepped (s : Stock) (j : ℕ) (t : Stock) : Type 0 where
    pub fits : Fits t
    pub at : t.cache.next_frame ≡ s.cache.next_frame + j

  steps-fit : (s : Stock) → Fits s → (j : ℕ) → s.cache.next_frame + j ≤ frames_of i → Stepped s j (steps alone from next j s)
  unfolding steps step
  steps-fit s w zero l = record { fits = w; at = omega arith }
  steps-fit s w (suc j) l =
      let t = steps alone from next j s in
      let r : Stepped s j t = steps-fit s w j (omega arith) in
      let f = t.cache.next_frame in
      let b : f < frames_of i = omega (arith, r.at) in
      record {
        fits = record { fit = stored-fit k t.cache bytes f (f + 1) (next t.cache.decoder f) r.fits.fit (below r.fits.info b) (omega (arith, below r.fits.info b)) (index-small d k i t.cache.decoder f r.fits.fit.index); info = info-stored t.cache f (f + 1) (next t.cache.decoder f) ∙ r.fits.info; held = variant-stored t.cache f (f + 1) (next t.cache.decoder f) ∙ r.fits.held; long = length-sets t.samples (64 * (f % 2)) (from t.cache.decoder f) ∙ r.fits.long };
        at = next-stored t.cache f (f + 1) (next t.cache.decoder f) ∙ omega (arith, r.at);
      }

  -- a fragment of the file is ensured
  pub ensure-fit : (s : Stock) → Fits s → (t : ℕ) → t < frames_of i → Fits (ensure alone from next s t)
  unfolding ensure load
  ensure-fit s w t l =
      cond-by Fits (is_held (cached_at s.cache (t % 2)) t) _ _ (λ e. w)
      (λ e. cond-by Fits alone _ _ (λ a. loaded)
      (λ a. cond-by Fits (ltb t s.cache.next_frame) _ _
      (λ b. (steps-fit (stock (rewound_from s.cache) s.samples) rewound (t + 1 - 0) (omega arith)).fits)
      (λ b. (steps-fit s w (t + 1 - s.cache.next_frame) (room (ltb-false t s.cache.next_frame b))).fits)))
    where
      loaded : Fits (load alone from next s t)
      loaded = record { fit = stored-fit k s.cache bytes t s.cache.next_frame s.cache.decoder w.fit (below w.info l) w.fit.next w.fit.index; info = info-stored s.cache t s.cache.next_frame s.cache.decoder ∙ w.info; held = variant-stored s.cache t s.cache.next_frame s.cache.decoder ∙ w.held; long = length-sets s.samples (64 * (t % 2)) (from s.cache.decoder t) ∙ w.long }

      rewound : Fits (stock (rewound_from s.cache) s.samples)
      rewound = record { fit = record { known = w.fit.known; per = w.fit.per; size = w.fit.size; long = w.fit.long; again = w.fit.again; index = omega arith; even = none 0 _; odd = none 1 _; next = omega arith }; info = w.info; held = w.held; long = w.long }

      room : s.cache.next_frame ≤ t → s.cache.next_frame + (t + 1 - s.cache.next_frame) ≤ frames_of i
      room h = omega arith

  module _ (plays : Plays d k i) where
    read-fit : (s : Stock) → Fits s → (at : ℕ) → at < i.sample_count → Fits (cached_read d k i s at).left
    unfolding cached_read
    read-fit s w at l = ensure-fit s w (at / frame_samples_of i.version) (frame-there d k i plays at l)

    heard-fit : (p : Play) (frac : ℕ) (s : Stock) → Fits s → (at : ℕ) → at < i.sample_count → Fits (heard_at (cached_read d k i) i p frac s at).left
    heard-fit p frac s w at l =
        cond-by (λ (g : Given Stock). Fits g.left) (blends i p frac at) _ _
        (λ m. read-fit (cached_read d k i s at).left (read-fit s w at l) (at + 1) (mixes-next i p frac at m)) (λ m. read-fit s w at l)

    pub played-fit : (p : Play) (phase : ℕ) (active : Bool) (s : Stock) → Fits s → (plan : Option (ℕ × ℕ)) → Asks i.sample_count plan → Fits (played_by (cached_read d k i) i p phase active s plan).stream
    played-fit p phase active s w None a = w
    played-fit p phase active s w (Some (at, from)) a = heard-fit p (fraction phase) s w at a

-- ---- the tick
pub record TickKeeps (ram : List ℕ) (p : Play) (s : Stock) (t : StreamTick Stock) : Type 0 where
  pub accepted : accepts_cache t.stream.cache p.start p.end (length ram) ≡ true
  pub long : length t.stream.samples ≡ length s.samples

module _ (ram : List ℕ) (p : Play) (phase : ℕ) (active : Bool) where
  abbrev file : List ℕ
  file = part ram p.start (p.end - p.start)

  from-accepted : (s₀ s : Stock) → length s.samples ≡ length s₀.samples → AcceptedAs s.cache p.start p.end (length ram) → TickKeeps ram p s₀ (tick_of p phase active (held_found file s s.cache.variant))
  from-accepted s₀ s e w =
      let r = accepted-ready ram s.cache p.start p.end w in
      let i = s.cache.info in
      let f = played-fit file w.variant i (p.end - p.start) (length s₀.samples) (r.plays w.variant w.held) p phase active s (record { fit = w.fit; info = refl; held = w.held; long = e }) (plan_of i p phase) (plan-asks i p phase r.again).it in
      subst (λ (h : Option Variant). TickKeeps ram p s₀ (tick_of p phase active (held_found file s h))) (sym w.held)
      (record { accepted = as-accepted _ p.start p.end (length ram) (record { variant = w.variant; held = f.held; range = w.range; fit = f.fit }); long = f.long })

  pub tick-keeps : (s : Stock) → accepts_cache s.cache p.start p.end (length ram) ≡ true → TickKeeps ram p s (cached_tick ram p phase active s)
  tick-keeps s a = short (eqb (length s.samples) 128) refl
    where
      by : (f : FoundFile Stock) → cached_found ram p s ≡ f → TickKeeps ram p s (tick_of p phase active f) → TickKeeps ram p s (cached_tick ram p phase active s)
      by f e = subst (TickKeeps ram p s) (tick-by ram p s phase active f e)

      fresh : (o : Option (Variant × Info)) → opened_in ram p.wants_v3 p.start p.end p.loop_addr ≡ o → TickKeeps ram p s (tick_of p phase active (fresh_found file s.samples o))
      fresh None e = record { accepted = accepts-free emptied p.start p.end (length ram) refl; long = length-replicate (length s.samples) (pos 0) }
      fresh (Some (k, i)) e = from-accepted s (stock (filled_with k i) s.samples) refl (opened-accepted ram p.wants_v3 p.start p.end p.loop_addr k i e)

      go : eqb (length s.samples) 128 ≡ true → (b : Bool) → s.cache.valid ≡ b → TickKeeps ram p s (cached_tick ram p phase active s)
      go r true v = by (held_found file s s.cache.variant) (found-held ram p s r v a) (from-accepted s s refl (accepted-as s.cache p.start p.end (length ram) a v))
      go r false v = by (fresh_found file s.samples (opened_in ram p.wants_v3 p.start p.end p.loop_addr)) (found-fresh ram p s r v _ refl) (fresh _ refl)

      short : (b : Bool) → eqb (length s.samples) 128 ≡ b → TickKeeps ram p s (cached_tick ram p phase active s)
      short true r = go r s.cache.valid refl
      short false r = by (unheard s) (found-short ram p s r) (record { accepted = a; long = refl })
