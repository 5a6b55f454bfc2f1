-- The decoder's way on to a fragment: the loop's invariant, its start, a turn and its end; and the four ways to ensure one. Assumes nothing.
use Rattle.std.proofs.Common.{◌≡◌, ℕ, zero, suc, ◌+◌, ◌-◌, ◌*◌, ◌%◌, ◌≤◌, Bool, true, false, eqb, ltb, List, length, ℤ, sym, refl, ap, ◌∙◌, arith}
use lib.Seq.{length-sets}
use Rattle.num.proofs.Choice.{cond-by}
use Rattle.adpcm.specs.declared.Variant.{Variant}
use Rattle.adpcm.specs.declared.State.{State}
use Rattle.stream.specs.declared.Info.{Info}
use Rattle.stream.specs.declared.StreamCache.{StreamCache}
use Rattle.stream.specs.Cache.{Stock, stock, is_held, cached_at, stored_as, rewound_from, load, step, steps, ensure, load_in, step_in, steps_in, onward_in, ensure_in}

module _ (alone : Bool) (from : State → ℕ → List ℤ) (next : State → ℕ → State) where
  -- what every step leaves as it is
  pub record Kept (a b : Stock) : Type 0 where
    pub valid : b.cache.valid ≡ a.cache.valid
    pub variant : b.cache.variant ≡ a.cache.variant
    pub info : b.cache.info ≡ a.cache.info
    pub long : length b.samples ≡ length a.samples

  pub kept-kept : (a b c : Stock) → Kept a b → Kept b c → Kept a c
  kept-kept a b c p q =
      record { valid = q.valid ∙ p.valid; variant = q.variant ∙ p.variant; info = q.info ∙ p.info; long = q.long ∙ p.long }

  pub kept_same : (a : Stock) → Kept a a
  kept_same a = record { valid = refl; variant = refl; info = refl; long = refl }

  pub kept-load : (s : Stock) (f : ℕ) → Kept s (load alone from next s f)
  unfolding load stored_as
  kept-load s f = record { valid = refl; variant = refl; info = refl; long = length-sets s.samples (64 * (f % 2)) (from s.cache.decoder f) }

  pub kept_step : (s : Stock) → Kept s (step alone from next s)
  unfolding step stored_as
  kept_step s = record { valid = refl; variant = refl; info = refl; long = length-sets s.samples (64 * (s.cache.next_frame % 2)) (from s.cache.decoder s.cache.next_frame) }

  pub next-step : (s : Stock) → (step alone from next s).cache.next_frame ≡ s.cache.next_frame + 1
  unfolding step stored_as
  next-step s = refl

  pub kept-steps : (n : ℕ) (s : Stock) → Kept s (steps alone from next n s)
  unfolding steps
  kept-steps zero s = kept_same s
  kept-steps (suc n) s = kept-kept s (steps alone from next n s) (step alone from next (steps alone from next n s)) (kept-steps n s) (kept_step (steps alone from next n s))

  pub kept-ensure : (s : Stock) (t : ℕ) → Kept s (ensure alone from next s t)
  unfolding ensure
  kept-ensure s t =
      cond-by (Kept s) (is_held (cached_at s.cache (t % 2)) t) _ _ (λ e. kept_same s)
      (λ e. cond-by (Kept s) alone _ _ (λ a. kept-load s t)
      (λ a. cond-by (Kept s) (ltb t s.cache.next_frame) _ _
      (λ l. let r = stock (rewound_from s.cache) s.samples in
      kept-kept s r (steps alone from next (t + 1 - 0) r) (record { valid = refl; variant = refl; info = refl; long = refl }) (kept-steps (t + 1 - 0) r))
      (λ l. kept-steps (t + 1 - s.cache.next_frame) s)))

module _ (d : List ℕ) (k : Variant) where
  -- before fragment n
  pub record Going (s₀ s : Stock) (n : ℕ) : Type 0 where
    pub at : n ≡ s.cache.next_frame
    pub low : s₀.cache.next_frame ≤ n
    pub info : s.cache.info ≡ s₀.cache.info
    pub long : length s.samples ≡ length s₀.samples
    pub same : s ≡ steps_in d k s₀.cache.info (n - s₀.cache.next_frame) s₀

  pub start : (s : Stock) → Going s s s.cache.next_frame
  unfolding steps
  start s = record { at = refl; low = omega arith; info = refl; long = refl; same = rw (none s.cache.next_frame) }
    where
      none : (n : ℕ) → n - n ≡ 0
      none n = omega arith

  one_more : (i : Info) (s : Stock) (m n : ℕ) → m ≤ n → steps_in d k i (n + 1 - m) s ≡ step_in d k i (steps_in d k i (n - m) s)
  unfolding steps
  one_more i s m n l = ap (λ (x : ℕ). steps_in d k i x s) (more m n l)
    where
      more : (m n : ℕ) → m ≤ n → n + 1 - m ≡ suc (n - m)
      more m n l = omega arith

  pub turn : (s₀ s t : Stock) (n : ℕ) → Going s₀ s n → t.cache ≡ (step_in d k s.cache.info s).cache → t.samples ≡ (step_in d k s.cache.info s).samples → Going s₀ t (n + 1)
  turn s₀ s t n g e f =
      let q : t ≡ step_in d k s.cache.info s = λ j. record { cache = e j; samples = f j } in
      let r : t ≡ step_in d k s₀.cache.info s = q ∙ ap (λ (i : Info). step_in d k i s) g.info in
      let w = kept_step (eqb s.cache.info.version 3) _ _ s in
      record {
        at = ap (λ (x : ℕ). x + 1) g.at ∙ sym (ap (λ (x : StreamCache). x.next_frame) e ∙ next-step _ _ _ s);
        low = omega (arith, g.low);
        info = ap (λ (x : StreamCache). x.info) e ∙ w.info ∙ g.info;
        long = ap length f ∙ w.long ∙ g.long;
        same = r ∙ ap (step_in d k s₀.cache.info) g.same ∙ sym (one_more s₀.cache.info s₀ s₀.cache.next_frame n g.low);
      }

  pub ended : (s₀ s : Stock) (n t : ℕ) → Going s₀ s n → n ≡ t + 1 → s ≡ onward_in d k s₀.cache.info s₀ t
  ended s₀ s n t g e = g.same ∙ ap (λ (x : ℕ). steps_in d k s₀.cache.info (x - s₀.cache.next_frame) s₀) e

  -- ---- the four ways
  module _ (i : Info) (s : Stock) (t : ℕ) where
    pub ensure-held : is_held (cached_at s.cache (t % 2)) t ≡ true → ensure_in d k i s t ≡ s
    unfolding ensure
    ensure-held a = rw a

    pub ensure-load : is_held (cached_at s.cache (t % 2)) t ≡ false → eqb i.version 3 ≡ true → ensure_in d k i s t ≡ load_in d k i s t
    unfolding ensure
    ensure-load a b = rw (a, b)

    pub ensure-back : is_held (cached_at s.cache (t % 2)) t ≡ false → eqb i.version 3 ≡ false → ltb t s.cache.next_frame ≡ true → ensure_in d k i s t ≡ onward_in d k i (stock (rewound_from s.cache) s.samples) t
    unfolding ensure
    ensure-back a b e = rw (a, b, e)

    pub ensure-on : is_held (cached_at s.cache (t % 2)) t ≡ false → eqb i.version 3 ≡ false → ltb t s.cache.next_frame ≡ false → ensure_in d k i s t ≡ onward_in d k i s t
    unfolding ensure
    ensure-on a b e = rw (a, b, e)
