-- An accepted cache: the Boolean as facts, and back; what the tick asks for. Assumes nothing.
use Rattle.std.specs.Prelude.{Option, Some, None}
use Rattle.std.proofs.Common.{◌≡◌, ℕ, ◌-◌, ◌<◌, ◌≤◌, Bool, true, false, cond, ltb, leb, List, length, sym, refl, ap, ◌∙◌, subst, arith, length-drop, length-take, ltb-true, lt-ltb, eq-eqb, eqb-true, le-leb, leb-true}
use Rattle.num.specs.Lists.{part}
use Rattle.num.proofs.Choice.{cond-by, never}
use Rattle.adpcm.specs.declared.Variant.{Variant}
use Rattle.sqv4.specs.Files.{frame_samples_of, frame_size_of}
use Rattle.stream.specs.declared.Info.{Info}
use Rattle.stream.specs.declared.StreamCache.{StreamCache}
use Rattle.stream.specs.Cache.{Plays}
use Rattle.stream.specs.Accepted.{both, sizes_fit, file_fits, held_fits, accepts_cache, Fit}
use Rattle.stream.specs.Ready.{Ready}
use Rattle.stream.proofs.Fragments.{samples-range}
use Rattle.stream.proofs.Counts.{both_true, both_is, loop-below}

pub record Sized (k : Variant) (i : Info) : Type 0 where
  pub known : (1 ≤ i.version) × (i.version ≤ 3)
  pub per : i.frame_samples ≡ frame_samples_of i.version
  pub size : i.frame_size ≡ frame_size_of i.version k

pub sizes-true : (k : Variant) (i : Info) → sizes_fit k i ≡ true → Sized k i
unfolding sizes_fit
sizes-true k i e =
    let a = both_true _ _ e in
    let b = both_true _ _ a.1 in
    let c = both_true _ _ b.1 in
    record { known = (leb-true 1 i.version a.0, leb-true i.version 3 b.0); per = eqb-true _ _ c.0; size = eqb-true _ _ c.1 }

sizes-is : (k : Variant) (i : Info) → Sized k i → sizes_fit k i ≡ true
unfolding sizes_fit
sizes-is k i s =
    both_is _ _ (le-leb 1 i.version s.known.0)
    (both_is _ _ (le-leb i.version 3 s.known.1) (both_is _ _ (eq-eqb _ _ s.per) (eq-eqb _ _ s.size)))

pub fits-true : (k : Variant) (c : StreamCache) (bytes : ℕ) → file_fits k c bytes ≡ true → Fit k c bytes
unfolding file_fits
fits-true k c bytes e =
    let a = both_true _ _ e in
    let s = sizes-true k c.info a.0 in
    let b = both_true _ _ a.1 in
    let d = both_true _ _ b.1 in
    let f = both_true _ _ d.1 in
    let g = both_true _ _ f.1 in
    let h = both_true _ _ g.1 in
    record {
      known = s.known;
      per = s.per;
      size = s.size;
      long = eqb-true _ _ b.0;
      again = d.0;
      index = leb-true _ _ f.0;
      even = g.0;
      odd = h.0;
      next = leb-true _ _ h.1;
    }

pub fits-is : (k : Variant) (c : StreamCache) (bytes : ℕ) → Fit k c bytes → file_fits k c bytes ≡ true
unfolding file_fits
fits-is k c bytes f =
    both_is _ _ (sizes-is k c.info (record { known = f.known; per = f.per; size = f.size }))
    (both_is _ _ (eq-eqb _ _ f.long)
    (both_is _ _ f.again (both_is _ _ (le-leb _ _ f.index) (both_is _ _ f.even (both_is _ _ f.odd (le-leb _ _ f.next))))))

-- ---- a valid cache that is accepted
pub record AcceptedAs (c : StreamCache) (start end length : ℕ) : Type 0 where
  pub variant : Variant
  pub held : c.variant ≡ Some variant
  pub range : (start < end) × (end ≤ length)
  pub fit : Fit variant c (end - start)

module _ (c : StreamCache) (start end length : ℕ) where
  pub accepts-free : c.valid ≡ false → accepts_cache c start end length ≡ true
  unfolding accepts_cache
  accepts-free e = ap (λ (b : Bool). cond b (both (ltb start end) (both (leb end length) (held_fits c.variant c (end - start)))) true) e

  pub accepts-by : c.valid ≡ true → accepts_cache c start end length ≡ both (ltb start end) (both (leb end length) (held_fits c.variant c (end - start)))
  unfolding accepts_cache
  accepts-by e = ap (λ (b : Bool). cond b (both (ltb start end) (both (leb end length) (held_fits c.variant c (end - start)))) true) e

  pub accepted-as : accepts_cache c start end length ≡ true → c.valid ≡ true → AcceptedAs c start end length
  accepted-as a v =
      let p = both_true _ _ (sym (accepts-by v) ∙ a) in
      let q = both_true _ _ p.1 in
      go c.variant refl q.1 (ltb-true start end p.0, leb-true end length q.0)
    where
      go : (h : Option Variant) → c.variant ≡ h → held_fits h c (end - start) ≡ true → (start < end) × (end ≤ length) → AcceptedAs c start end length
      go None e f r = never (sym f)
      go (Some k) e f r = record { variant = k; held = e; range = r; fit = fits-true k c (end - start) f }

  pub as-accepted : AcceptedAs c start end length → accepts_cache c start end length ≡ true
  as-accepted w =
      cond-by (λ (b : Bool). (c.valid ≡ b → accepts_cache c start end length ≡ true)) c.valid true false (λ e v. accepts-by v ∙ valid) (λ e v. accepts-free v) (self c.valid)
    where
      valid : both (ltb start end) (both (leb end length) (held_fits c.variant c (end - start))) ≡ true
      valid =
          both_is _ _ (lt-ltb start end w.range.0)
          (both_is _ _ (le-leb end length w.range.1) (ap (λ (h : Option Variant). held_fits h c (end - start)) w.held ∙ fits-is w.variant c (end - start) w.fit))

      self : (b : Bool) → b ≡ cond b true false
      self true = refl
      self false = refl

-- ---- what the tick asks for
pub long-part : (ram : List ℕ) (start end : ℕ) → (start < end) × (end ≤ length ram) → length (part ram start (end - start)) ≡ end - start
long-part ram start end r = simp (length-take, length-drop) (omega arith)

pub fit-plays : (d : List ℕ) (k : Variant) (c : StreamCache) (bytes : ℕ) → length d ≡ bytes → Fit k c bytes → Plays d k c.info
fit-plays d k c bytes e f = record { known = f.known; per = f.per; size = f.size; long = e ∙ sym f.long }

fit-loop : (k : Variant) (c : StreamCache) (bytes : ℕ) → Fit k c bytes → 0 < c.info.sample_count → c.info.loop_sample < c.info.sample_count
fit-loop k c bytes f = loop-below c.info.loop_sample c.info.frame_samples c.info.sample_count (omega (arith, samples-range c.info.version, f.per)) f.again

pub accepted-ready : (ram : List ℕ) (c : StreamCache) (start end : ℕ) → AcceptedAs c start end (length ram) → Ready (part ram start (end - start)) c
accepted-ready ram c start end w =
    record { plays = λ k e. subst (λ (x : Variant). Plays (part ram start (end - start)) x c.info) (same k e) (fit-plays (part ram start (end - start)) w.variant c (end - start) (long-part ram start end w.range) w.fit); again = fit-loop w.variant c (end - start) w.fit }
  where
    same : (k : Variant) → c.variant ≡ Some k → w.variant ≡ k
    same k e = let f = w.held in cc
