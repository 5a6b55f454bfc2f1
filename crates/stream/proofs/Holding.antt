-- A cache that holds pieces of a whole still does when a piece is ensured, and then has that piece. Assumes nothing.
use Rattle.std.specs.Prelude.{Option, Some, None}
use Rattle.std.proofs.Common.{◌≡◌, ℕ, zero, suc, ◌+◌, ◌-◌, ◌*◌, ◌/◌, ◌%◌, ◌<◌, ◌≤◌, min, Bool, true, false, cond, eqb, ltb, ◌⊎◌, List, length, get_or, ℤ, pos, sym, refl, ap, ◌∙◌, subst, inl, inr, mod-lt, div-add-mod', add-one, arith, ltb-false, eqb-true}
use native.Mathlib.Decide.{dec_le}
use lib.Seq.{length-sets}
use borrow.Author.Tests.{eqb-false}
use Rattle.num.proofs.Choice.{cond-by, never}
use Rattle.adpcm.specs.declared.State.{State}
use Rattle.sqv4.specs.Decoding.{zero_state}
use Rattle.sqv4.specs.Whole.{state_after, piece}
use Rattle.stream.specs.declared.StreamCache.{StreamCache}
use Rattle.stream.specs.Cache.{Stock, stock, cached_at, is_held, stored_as, rewound_from, load, step, steps, ensure}
use Rattle.stream.specs.Coherent.{Holds}
use Rattle.stream.proofs.Placed.{placed-in, placed-out}
use Rattle.stream.proofs.Onward.{next-step}

is-held : (x : Option ℕ) (t : ℕ) → is_held x t ≡ true → x ≡ Some t
is-held None t e = never (sym e)
is-held (Some g) t e = ap Some (eqb-true g t e)

-- a cache with no tags, at the first piece, holds
pub nothing-held : (alone : Bool) (from : State → ℕ → List ℤ) (next : State → ℕ → State) (s : Stock) → length s.samples ≡ 128 → s.cache.even ≡ None → s.cache.odd ≡ None → s.cache.next_frame ≡ 0 → s.cache.decoder ≡ zero_state → Holds alone from next s
nothing-held alone from next s r a b n d = record { room = r; tagged = λ f t i h. none f (eqb (f % 2) 0) t; carried = λ e. rw (n, d) }
  where
    none : {A : Type 0} (f : ℕ) (x : Bool) → cond x s.cache.even s.cache.odd ≡ Some f → A
    none f true e = absurd (let z : ◌≡◌ {A = ℕ} 0 1 = cc in omega arith)
    none f false e = absurd (let z : ◌≡◌ {A = ℕ} 0 1 = cc in omega arith)

-- the tags after fragment f is stored
tag_same : (c : StreamCache) (f n : ℕ) (d : State) → cached_at (stored_as c f n d) (f % 2) ≡ Some f
unfolding stored_as
tag_same c f n d = go (eqb (f % 2) 0)
  where
    go : (b : Bool) → cond b (cond b (Some f) c.even) (cond b c.odd (Some f)) ≡ Some f
    go true = refl
    go false = refl

tag-other : (c : StreamCache) (f n : ℕ) (d : State) (g : ℕ) → (g % 2 ≡ f % 2 → ⊥) → cached_at (stored_as c f n d) (g % 2) ≡ cached_at c (g % 2)
unfolding stored_as
tag-other c f n d g ne = go (eqb (f % 2) 0) (eqb (g % 2) 0) refl refl
  where
    go : (a b : Bool) → eqb (f % 2) 0 ≡ a → eqb (g % 2) 0 ≡ b → cond b (cond a (Some f) c.even) (cond a c.odd (Some f)) ≡ cond b c.even c.odd
    go true true p q = absurd (ne (omega (arith, eqb-true (f % 2) 0 p, eqb-true (g % 2) 0 q)))
    go true false p q = refl
    go false true p q = refl
    go false false p q = absurd (odds (eqb-false (f % 2) 0 p) (eqb-false (g % 2) 0 q))
      where
        odds : (f % 2 ≡ 0 → ⊥) → (g % 2 ≡ 0 → ⊥) → ⊥
        odds x y = ne (omega arith)

loaded-there : (alone : Bool) (from : State → ℕ → List ℤ) (next : State → ℕ → State) (s : Stock) (t : ℕ) → cached_at (load alone from next s t).cache (t % 2) ≡ Some t
unfolding load
loaded-there alone from next s t = tag_same s.cache t s.cache.next_frame s.cache.decoder

module _ (alone : Bool) (from : State → ℕ → List ℤ) (next : State → ℕ → State) (n per : ℕ) (small : per ≤ 64) (lens : (s : State) (f : ℕ) → length (from s f) ≡ min (n - f * per) per) where
  abbrev pub Ok : Stock → Type 0
  Ok s = Holds alone from next s

  abbrev Full : Stock → ℕ → ℕ → Type 0
  Full s f i = i < length (piece from next f) → get_or s.samples (64 * (f % 2) + i) (pos 0) ≡ get_or (piece from next f) i (pos 0)

  -- the pieces after piece f is loaded, wherever the decoder goes
  module _ (s : Stock) (ok : Ok s) (f : ℕ) (e : from s.cache.decoder f ≡ piece from next f) where
    fits : 64 * (f % 2) + length (from s.cache.decoder f) ≤ length s.samples
    fits = omega (arith, lens s.cache.decoder f, ok.room)

    load-room : length (load alone from next s f).samples ≡ 128
    unfolding load
    load-room = length-sets s.samples (64 * (f % 2)) (from s.cache.decoder f) ∙ ok.room

    load_same : (i : ℕ) → Full (load alone from next s f) f i
    unfolding load
    load_same i h = placed-in (pos 0) s.samples (64 * (f % 2)) (from s.cache.decoder f) fits i (rw e h) ∙ ap (λ (l : List ℤ). get_or l i (pos 0)) e

    load-other : (g : ℕ) → (g % 2 ≡ f % 2 → ⊥) → cached_at s.cache (g % 2) ≡ Some g → (i : ℕ) → Full (load alone from next s f) g i
    unfolding load
    load-other g ne t i h =
        placed-out (pos 0) s.samples (64 * (f % 2)) (from s.cache.decoder f) fits (64 * (g % 2) + i) (side (dec_le (g % 2) (f % 2)))
        ∙ ok.tagged g t i h
      where
        side : Dec (g % 2 ≤ f % 2) → (64 * (g % 2) + i < 64 * (f % 2)) ⊎ (64 * (f % 2) + length (from s.cache.decoder f) ≤ 64 * (g % 2) + i)
        side (yes l) = inl (omega (arith, lens (state_after from next g) g))
        side (no l) = inr (omega (arith, lens s.cache.decoder f))

    load-tagged : (m : ℕ) (d : State) (g : ℕ) → cached_at (stored_as s.cache f m d) (g % 2) ≡ Some g → (i : ℕ) → Full (load alone from next s f) g i
    load-tagged m d g t i = go (eqb (g % 2) (f % 2)) refl
      where
        go : (b : Bool) → eqb (g % 2) (f % 2) ≡ b → Full (load alone from next s f) g i
        go true p =
            let q : g % 2 ≡ f % 2 = eqb-true (g % 2) (f % 2) p in
            let r : Some f ≡ Some g = sym (tag_same s.cache f m d) ∙ sym (ap (λ (x : ℕ). cached_at (stored_as s.cache f m d) x) q) ∙ t in
            let u : f ≡ g = cc in
            subst (λ (x : ℕ). Full (load alone from next s f) x i) u (load_same i)
        go false p =
            let ne : g % 2 ≡ f % 2 → ⊥ = eqb-false (g % 2) (f % 2) p in
            load-other g ne (sym (tag-other s.cache f m d g ne) ∙ t) i

    load_ok : Ok (load alone from next s f)
    unfolding load stored_as
    load_ok = record { room = load-room; tagged = load-tagged s.cache.next_frame s.cache.decoder; carried = ok.carried }

  step_ok : (s : Stock) → Ok s → alone ≡ false → Ok (step alone from next s)
  unfolding step load stored_as
  step_ok s ok a =
      let f = s.cache.next_frame in
      let e : from s.cache.decoder f ≡ piece from next f = ap (λ (d : State). from d f) (ok.carried a) in
      record { room = load-room s ok f e; tagged = load-tagged s ok f e (f + 1) (next s.cache.decoder f); carried = λ b. rw (add-one f) (ap (λ (d : State). next d f) (ok.carried a)) }

  -- ---- what an ensured piece is
  pub record Ensured (t : ℕ) (d : Stock) : Type 0 where
    pub ok : Ok d
    pub there : cached_at d.cache (t % 2) ≡ Some t

  record Stepped (s : Stock) (j : ℕ) (d : Stock) : Type 0 where
    pub ok : Ok d
    pub at : d.cache.next_frame ≡ s.cache.next_frame + j

  steps-ok : (s : Stock) → Ok s → alone ≡ false → (j : ℕ) → Stepped s j (steps alone from next j s)
  unfolding steps
  steps-ok s ok a zero = record { ok = ok; at = omega arith }
  steps-ok s ok a (suc j) =
      let w : Stepped s j (steps alone from next j s) = steps-ok s ok a j in
      record { ok = step_ok (steps alone from next j s) w.ok a; at = omega (arith, w.at, next-step alone from next (steps alone from next j s)) }

  step-there : (d : Stock) (t : ℕ) → d.cache.next_frame ≡ t → cached_at (step alone from next d).cache (t % 2) ≡ Some t
  unfolding step
  step-there d t e =
      let f = d.cache.next_frame in
      subst (λ (x : ℕ). cached_at (stored_as d.cache f (f + 1) (next d.cache.decoder f)) (x % 2) ≡ Some x) e (tag_same d.cache f (f + 1) (next d.cache.decoder f))

  onward-ok : (s : Stock) → Ok s → alone ≡ false → (t : ℕ) → s.cache.next_frame ≤ t → Ensured t (steps alone from next (t + 1 - s.cache.next_frame) s)
  unfolding steps
  onward-ok s ok a t h =
      let j = t - s.cache.next_frame in
      let e : t + 1 - s.cache.next_frame ≡ suc (t - s.cache.next_frame) = omega arith in
      let w : Stepped s j (steps alone from next j s) = steps-ok s ok a j in
      rw e (record { ok = step_ok (steps alone from next j s) w.ok a; there = step-there (steps alone from next j s) t (omega (arith, w.at)) })

  pub ensure-ok : (alone ≡ true → (s s' : State) (f : ℕ) → from s f ≡ from s' f) → (s : Stock) → Ok s → (t : ℕ) → Ensured t (ensure alone from next s t)
  unfolding ensure
  ensure-ok free s ok t =
      cond-by (Ensured t) (is_held (cached_at s.cache (t % 2)) t) _ _
      (λ e. record { ok = ok; there = is-held (cached_at s.cache (t % 2)) t e })
      (λ e. cond-by (Ensured t) alone _ _
      (λ a. record { ok = load_ok s ok t (free a s.cache.decoder (state_after from next t) t); there = loaded-there alone from next s t })
      (λ a. cond-by (Ensured t) (ltb t s.cache.next_frame) _ _
      (λ l. onward-ok (stock (rewound_from s.cache) s.samples) (nothing-held alone from next (stock (rewound_from s.cache) s.samples) ok.room refl refl refl refl) a t (omega arith))
      (λ l. onward-ok s ok a t (ltb-false t s.cache.next_frame l))))

  -- a sample of a piece that is there
  pub tap-ok : (s : Stock) → Ok s → (i : ℕ) → 0 < per → i < n → cached_at s.cache (i / per % 2) ≡ Some (i / per) → get_or s.samples (64 * (i / per % 2) + i % per) (pos 0) ≡ get_or (piece from next (i / per)) (i % per) (pos 0)
  tap-ok s ok i p h t = ok.tagged (i / per) t (i % per) (omega (arith, lens (state_after from next (i / per)) (i / per), div-add-mod' i per, mod-lt i p))
