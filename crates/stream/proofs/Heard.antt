-- The tick of a valid cache, from what the code finds. Assumes nothing.
use Rattle.std.specs.Prelude.{Option, Some, None}
use Rattle.std.proofs.Common.{◌≡◌, ℕ, ◌+◌, ◌/◌, ◌<◌, Bool, true, false, cond, eqb, ltb, List, ℤ, sym, ap, ◌∙◌, arith, ltb-true}
use borrow.Author.Tests.{eqb-false}
use Rattle.num.proofs.Choice.{cond-by, never}
use Rattle.adpcm.specs.declared.Variant.{Variant}
use Rattle.sqv4.specs.Files.{frame_samples_of}
use Rattle.tone.specs.Phase.{whole, fraction as fraction_of, stepped as stepped_by}
use Rattle.tone.specs.Taps.{raised_sample, blend_samples}
use Rattle.stream.specs.declared.Info.{Info}
use Rattle.stream.specs.declared.Play.{Play}
use Rattle.stream.specs.declared.StreamCache.{StreamCache}
use Rattle.stream.specs.declared.Streamed.{Streamed}
use Rattle.stream.specs.Cache.{Stock, stock, ensure_in}
use Rattle.stream.specs.Tick.{Given, StreamTick, plan_of, blends, heard_at, played_by, tick_of}
use Rattle.stream.specs.Cached.{tap_at, cached_read, held_found}

-- ---- a value, from its reads
module _ {S : Type 0} (read : S → ℕ → Given S) (i : Info) (p : Play) (frac : ℕ) (s : S) (at : ℕ) (g : Given S) (r : g ≡ read s at) where
  pub heard-one : blends i p frac at ≡ false → (x : ℤ) → x ≡ raised_sample g.sample → ◌≡◌ {A = Given S} (record { left = g.left; sample = x }) (heard_at read i p frac s at)
  heard-one m x e =
      (λ j. record { left = (r j).left; sample = (e ∙ ap (λ (y : Given S). raised_sample y.sample) r) j })
      ∙ sym (ap (λ (b : Bool). cond b (record { left = (read (read s at).left (at + 1)).left; sample = blend_samples (read s at).sample (read (read s at).left (at + 1)).sample frac }) (record { left = (read s at).left; sample = raised_sample (read s at).sample })) m)

  pub heard-two : blends i p frac at ≡ true → (n : Given S) → n ≡ read g.left (at + 1) → (x : ℤ) → x ≡ blend_samples g.sample n.sample frac → ◌≡◌ {A = Given S} (record { left = n.left; sample = x }) (heard_at read i p frac s at)
  heard-two m n q x e =
      let q' : n ≡ read (read s at).left (at + 1) = q ∙ ap (λ (y : Given S). read y.left (at + 1)) r in
      (λ j. record { left = (q' j).left; sample = (e ∙ (λ k. blend_samples (r k).sample (q' k).sample frac)) j })
      ∙ sym (ap (λ (b : Bool). cond b (record { left = (read (read s at).left (at + 1)).left; sample = blend_samples (read s at).sample (read (read s at).left (at + 1)).sample frac }) (record { left = (read s at).left; sample = raised_sample (read s at).sample })) m)

-- ---- a read of the cache
pub read_is : (d : List ℕ) (k : Variant) (i : Info) (s : Stock) (at f : ℕ) (c : StreamCache) (samples : List ℤ) (x : ℤ) → f ≡ at / frame_samples_of i.version
    → c ≡ (ensure_in d k i s f).cache → samples ≡ (ensure_in d k i s f).samples → x ≡ tap_at i.version samples at
    → ◌≡◌ {A = Given Stock} (record { left = stock c samples; sample = x }) (cached_read d k i s at)
unfolding cached_read
read_is d k i s at f c samples x e p q r =
    let w : stock c samples ≡ ensure_in d k i s (at / frame_samples_of i.version) = (λ j. record { cache = p j; samples = q j }) ∙ ap (λ (n : ℕ). ensure_in d k i s n) e in
    λ j. record { left = w j; sample = (r ∙ ap (λ (y : Stock). tap_at i.version y.samples at) w) j }

-- ---- the tick by its plan
module _ (d : List ℕ) (v : Streamed) (samples : List ℤ) (p : Play) (k : Variant) (e : v.cache.variant ≡ Some k) where
  pub by-plan : (plan : Option (ℕ × ℕ)) → plan_of v.cache.info p v.phase ≡ plan
      → played_by (cached_read d k v.cache.info) v.cache.info p v.phase v.active (stock v.cache samples) plan
      ≡ tick_of p v.phase v.active (held_found d (stock v.cache samples) v.cache.variant)
  by-plan plan q =
      sym
      (ap (λ (h : Option Variant). tick_of p v.phase v.active (held_found d (stock v.cache samples) h)) e
      ∙ ap (played_by (cached_read d k v.cache.info) v.cache.info p v.phase v.active (stock v.cache samples)) q)

  pub sampled : (at from frac : ℕ) (h : Given Stock) (phase : ℕ) → plan_of v.cache.info p v.phase ≡ Some (at, from) → frac ≡ fraction_of v.phase
      → h ≡ heard_at (cached_read d k v.cache.info) v.cache.info p frac (stock v.cache samples) at → phase ≡ stepped_by from p.step
      → ◌≡◌ {A = StreamTick Stock} (record { stream = h.left; phase = phase; active = v.active; value = h.sample }) (tick_of p v.phase v.active (held_found d (stock v.cache samples) v.cache.variant))
  sampled at from frac h phase q f r t =
      let r' : h ≡ heard_at (cached_read d k v.cache.info) v.cache.info p (fraction_of v.phase) (stock v.cache samples) at = r ∙ ap (λ (x : ℕ). heard_at (cached_read d k v.cache.info) v.cache.info p x (stock v.cache samples) at) f in
      (λ j. record { stream = (r' j).left; phase = t j; active = v.active; value = (r' j).sample }) ∙ by-plan (Some (at, from)) q

-- what a plan asks for is there
abbrev pub Asks : ℕ → Option (ℕ × ℕ) → Type 0
Asks n None = Unit {0}
Asks n (Some (at, from)) = at < n

pub record Asked (n : ℕ) (plan : Option (ℕ × ℕ)) : Type 0 where
  pub it : Asks n plan

pub plan-asks : (i : Info) (p : Play) (phase : ℕ) → (0 < i.sample_count → i.loop_sample < i.sample_count) → Asked i.sample_count (plan_of i p phase)
unfolding plan_of
plan-asks i p phase a =
    cond-by (Asked i.sample_count) (ltb (whole phase) i.sample_count) _ _ (λ e. record { it = ltb-true (whole phase) i.sample_count e })
    (λ e. cond-by (Asked i.sample_count) (eqb i.sample_count 0) _ _ (λ z. record { it = tt })
    (λ z. cond-by (Asked i.sample_count) p.loops _ _ (λ l. record { it = a (some (eqb-false i.sample_count 0 z)) }) (λ l. record { it = tt })))
  where
    some : (i.sample_count ≡ 0 → ⊥) → 0 < i.sample_count
    some h = omega arith

pub mixes-next : (i : Info) (p : Play) (frac at : ℕ) → blends i p frac at ≡ true → at + 1 < i.sample_count
mixes-next i p frac at e = go p.interpolate (eqb frac 0) e
  where
    go : (a b : Bool) → cond a (cond b false (ltb (at + 1) i.sample_count)) false ≡ true → at + 1 < i.sample_count
    go true true e = never (sym e)
    go true false e = ltb-true (at + 1) i.sample_count e
    go false b e = never (sym e)
