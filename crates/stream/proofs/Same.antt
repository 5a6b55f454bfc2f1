-- The tick with a coherent cache gives what the plain tick gives, and the cache stays coherent. Assumes nothing.
use Rattle.std.specs.Prelude.{Option, Some, None}
use Rattle.std.proofs.Common.{◌≡◌, ℕ, ◌+◌, ◌-◌, ◌*◌, ◌/◌, ◌%◌, ◌<◌, Bool, true, false, cond, eqb, List, length, get_or, ℤ, pos, sym, refl, ap, ◌∙◌, subst, ap₂, arith, eq-eqb}
use lib.ListN.{length-replicate}
use Rattle.num.specs.Lists.{part}
use Rattle.num.proofs.Choice.{never}
use Rattle.adpcm.specs.declared.Variant.{Variant}
use Rattle.adpcm.specs.declared.State.{State}
use Rattle.sqv4.specs.declared.Header.{Header}
use Rattle.sqv4.specs.Files.{inspected, frame_length}
use Rattle.sqv4.specs.Decoding.{samples_of, state_of}
use Rattle.sqv4.specs.Whole.{samples_from, state_from, pieces, channel_whole}
use Rattle.tone.specs.Phase.{fraction}
use Rattle.tone.specs.Taps.{raised_sample, blend_samples}
use Rattle.stream.specs.declared.Info.{Info}
use Rattle.stream.specs.declared.Play.{Play}
use Rattle.stream.specs.File.{source_of, info_of, opened_in}
use Rattle.stream.specs.Cache.{Stock, stock, emptied, filled_with, Plays, frames_of, bytes_at, fragment_samples, fragment_state, ensure_in}
use Rattle.stream.specs.Accepted.{accepts_cache}
use Rattle.stream.specs.Tick.{Given, StreamTick, plan_of, blends, heard_at, played_by, tick_of}
use Rattle.stream.specs.Cached.{cached_read, held_found, fresh_found, cached_tick}
use Rattle.stream.specs.Plain.{whole_in, whole_read, plain_found, plain_tick}
use Rattle.stream.specs.Coherent.{HoldsFile, Valid, Coherent, CoherentIn}
use Rattle.stream.proofs.Fragments.{per-range, frame_below, length-fragment, fragment-alone}
use Rattle.stream.proofs.Pieces.{whole-at}
use Rattle.stream.proofs.Onward.{Kept, kept-kept, kept-ensure}
use Rattle.stream.proofs.Holding.{nothing-held, Ensured, ensure-ok, tap-ok}
use Rattle.stream.proofs.Accepts.{accepted-ready}
use Rattle.stream.proofs.Openings.{OpenedAs, opened-as, opened-mono, opened-told, opened-accepted}
use Rattle.stream.proofs.Heard.{Asks, plan-asks, mixes-next}
use Rattle.stream.proofs.Founds.{found-held, found-fresh, tick-by}

-- ---- the whole, fragment by fragment
abbrev fragments : List ℕ → Variant → Info → List ℤ
fragments d k i = pieces (fragment_samples d k i) (fragment_state d k i) (frames_of i)

module _ (d : List ℕ) (h : Header) (again : ℕ) (mono : h.channels ≡ 1) where
  first-channel : (f : ℕ) → f * h.channels + 0 ≡ f
  first-channel f = rw mono (omega arith)

  samples-same : (s : State) (f : ℕ) → samples_from d h 0 s f ≡ fragment_samples d h.variant (info_of h again) s f
  unfolding samples_from fragment_samples
  samples-same s f = ap (λ (n : ℕ). samples_of h.version h.variant s (bytes_at d (info_of h again) n) (frame_length h f)) (first-channel f)

  state-same : (s : State) (f : ℕ) → state_from d h 0 s f ≡ fragment_state d h.variant (info_of h again) s f
  unfolding state_from fragment_state
  state-same s f = ap (λ (n : ℕ). state_of h.version h.variant s (bytes_at d (info_of h again) n) (frame_length h f)) (first-channel f)

  whole_same : h.frame_count ≡ frames_of (info_of h again) → channel_whole d h 0 ≡ fragments d h.variant (info_of h again)
  unfolding channel_whole
  whole_same e = λ j. pieces (λ s f. samples-same s f j) (λ s f. state-same s f j) (e j)

whole_is : (d : List ℕ) (wants : Bool) (k : Variant) (i : Info) → OpenedAs d wants k i → whole_in d (inspected d) ≡ fragments d k i
whole_is d wants k i o =
    ap (whole_in d) o.found
    ∙ whole_same d o.header o.again (opened-mono d wants k i o) (opened-told d wants k i o).count
    ∙ sym (λ j. fragments d (o.variant j) (o.numbers j))

-- ---- a read, a value and a tick with a cache that holds
module _ (d : List ℕ) (k : Variant) (i : Info) (plays : Plays d k i) where
  abbrev KeptIn : Stock → Stock → Type 0
  KeptIn = Kept (eqb i.version 3) (fragment_samples d k i) (fragment_state d k i)

  record SameRead (s : Stock) (at : ℕ) (g : Given Stock) : Type 0 where
    pub sample : g.sample ≡ get_or (fragments d k i) at (pos 0)
    pub holds : HoldsFile d k i g.left
    pub kept : KeptIn s g.left

  record SameValue (s : Stock) (x : ℤ) (g : Given Stock) : Type 0 where
    pub value : g.sample ≡ x
    pub holds : HoldsFile d k i g.left
    pub kept : KeptIn s g.left

  some : 0 < i.frame_samples
  some = omega (arith, per-range d k i plays)

  same_read : (s : Stock) → HoldsFile d k i s → (at : ℕ) → at < i.sample_count → SameRead s at (cached_read d k i s at)
  unfolding cached_read
  same_read s ok at l = subst (λ (n : ℕ). SameRead s at (record { left = ensure_in d k i s (at / n); sample = get_or (ensure_in d k i s (at / n)).samples (64 * (at / n % 2) + at % n) (pos 0) })) plays.per made
    where
      t : ℕ
      t = at / i.frame_samples

      w : Ensured (eqb i.version 3) (fragment_samples d k i) (fragment_state d k i) i.sample_count i.frame_samples (per-range d k i plays).1 (length-fragment d k i) t (ensure_in d k i s t)
      w = ensure-ok (eqb i.version 3) (fragment_samples d k i) (fragment_state d k i) i.sample_count i.frame_samples (per-range d k i plays).1 (length-fragment d k i) (fragment-alone d k i) s ok t

      made : SameRead s at (record { left = ensure_in d k i s t; sample = get_or (ensure_in d k i s t).samples (64 * (t % 2) + at % i.frame_samples) (pos 0) })
      made =
          record {
            sample = tap-ok (eqb i.version 3) (fragment_samples d k i) (fragment_state d k i) i.sample_count i.frame_samples (per-range d k i plays).1 (length-fragment d k i) (ensure_in d k i s t) w.ok at some l w.there
                ∙ sym (whole-at (fragment_samples d k i) (fragment_state d k i) i.sample_count i.frame_samples (length-fragment d k i) (frames_of i) at some (frame_below at i.frame_samples i.sample_count some l) l);
            holds = w.ok;
            kept = kept-ensure (eqb i.version 3) (fragment_samples d k i) (fragment_state d k i) s t;
          }

  same-heard : (p : Play) (frac : ℕ) (s : Stock) → HoldsFile d k i s → (at : ℕ) → at < i.sample_count → SameValue s (heard_at (whole_read (fragments d k i)) i p frac tt at).sample (heard_at (cached_read d k i) i p frac s at)
  same-heard p frac s ok at l = go (blends i p frac at) (mixes-next i p frac at) (same_read s ok at l)
    where
      a : Given Stock
      a = cached_read d k i s at

      b : Given Stock
      b = cached_read d k i a.left (at + 1)

      x : ℤ
      x = get_or (fragments d k i) at (pos 0)

      y : ℤ
      y = get_or (fragments d k i) (at + 1) (pos 0)

      go : (m : Bool) → (m ≡ true → at + 1 < i.sample_count) → SameRead s at a → SameValue s (cond {A = Given (Unit {0})} m (record { left = tt; sample = blend_samples x y frac }) (record { left = tt; sample = raised_sample x })).sample (cond m (record { left = b.left; sample = blend_samples a.sample b.sample frac }) (record { left = a.left; sample = raised_sample a.sample }))
      go true n r =
          let q = same_read a.left r.holds (at + 1) (n refl) in
          record { value = ap₂ (λ (u v : ℤ). blend_samples u v frac) r.sample q.sample; holds = q.holds; kept = kept-kept _ _ _ s a.left b.left r.kept q.kept }
      go false n r = record { value = ap raised_sample r.sample; holds = r.holds; kept = r.kept }

  record SameTick (s : Stock) (u : StreamTick (Unit {0})) (t : StreamTick Stock) : Type 0 where
    pub phase : t.phase ≡ u.phase
    pub active : t.active ≡ u.active
    pub value : t.value ≡ u.value
    pub holds : HoldsFile d k i t.stream
    pub kept : KeptIn s t.stream

  same-played : (p : Play) (phase : ℕ) (active : Bool) (s : Stock) → HoldsFile d k i s → (plan : Option (ℕ × ℕ)) → Asks i.sample_count plan → SameTick s (played_by (whole_read (fragments d k i)) i p phase active tt plan) (played_by (cached_read d k i) i p phase active s plan)
  same-played p phase active s ok None a = record { phase = refl; active = refl; value = refl; holds = ok; kept = record { valid = refl; variant = refl; info = refl; long = refl } }
  same-played p phase active s ok (Some (at, from)) a =
      let h = same-heard p (fraction phase) s ok at a in
      record { phase = refl; active = refl; value = h.value; holds = h.holds; kept = h.kept }

-- ---- the law
pub record TickSame (found : Option (Variant × Info)) (d : List ℕ) (u : StreamTick (Unit {0})) (t : StreamTick Stock) : Type 0 where
  pub phase : t.phase ≡ u.phase
  pub active : t.active ≡ u.active
  pub value : t.value ≡ u.value
  pub coherent : Coherent found d t.stream

pub emptied-coherent : (found : Option (Variant × Info)) (d : List ℕ) (samples : List ℤ) → length samples ≡ 128 → Coherent found d (stock emptied samples)
emptied-coherent found d samples e = record { room = e; valid = λ v. never (sym v) }

module _ (ram : List ℕ) (p : Play) (phase : ℕ) (active : Bool) where
  abbrev found : Option (Variant × Info)
  found = opened_in ram p.wants_v3 p.start p.end p.loop_addr

  abbrev file : List ℕ
  file = part ram p.start (p.end - p.start)

  abbrev plainly : Option (Variant × Info) → StreamTick (Unit {0})
  plainly o = tick_of p phase active (plain_found (whole_in file (inspected file)) o)

  from-valid : (k : Variant) (s : Stock) → s.cache.variant ≡ Some k → found ≡ Some (k, s.cache.info) → HoldsFile file k s.cache.info s → TickSame found file (plainly (Some (k, s.cache.info))) (tick_of p phase active (held_found file s (Some k)))
  unfolding source_of
  from-valid k s q e ok =
      let i = s.cache.info in
      let r = accepted-ready ram (filled_with k i) p.start p.end (opened-accepted ram p.wants_v3 p.start p.end p.loop_addr k i e) in
      let o = opened-as (source_of ram p.start p.end) p.wants_v3 p.start p.loop_addr k i e in
      let w = whole_is file p.wants_v3 k i o in
      let t = same-played file k i (r.plays k refl) p phase active s ok (plan_of i p phase) (plan-asks i p phase r.again).it in
      subst (λ (l : List ℤ). TickSame found file (tick_of p phase active (plain_found l (Some (k, i)))) (tick_of p phase active (held_found file s (Some k)))) (sym w)
      (record {
        phase = t.phase;
        active = t.active;
        value = t.value;
        coherent = record {
          room = t.holds.room;
          valid = λ v. record {
            variant = k;
            held = t.kept.variant ∙ q;
            same = e ∙ ap (λ (x : Info). Some (k, x)) (sym t.kept.info);
            holds = subst (λ (x : Info). HoldsFile file k x (played_by (cached_read file k i) i p phase active s (plan_of i p phase)).stream) (sym t.kept.info) t.holds;
          };
        };
      })

  -- a coherent and accepted cache gives what the plain tick gives, and stays coherent
  pub tick-same : (s : Stock) → CoherentIn ram p.wants_v3 p.start p.end p.loop_addr s → accepts_cache s.cache p.start p.end (length ram) ≡ true → TickSame found (source_of ram p.start p.end).bytes (plain_tick ram p phase active) (cached_tick ram p phase active s)
  unfolding source_of plain_tick
  tick-same s ok a = go s.cache.valid refl
    where
      room : eqb (length s.samples) 128 ≡ true
      room = eq-eqb (length s.samples) 128 ok.room

      held : s.cache.valid ≡ true → Valid found file s → TickSame found file (plainly found) (cached_tick ram p phase active s)
      held v w =
          subst (λ (t : StreamTick Stock). TickSame found file (plainly found) t) (tick-by ram p s phase active (held_found file s s.cache.variant) (found-held ram p s room v a))
          (subst (λ (o : Option (Variant × Info)). TickSame found file (plainly o) (tick_of p phase active (held_found file s s.cache.variant))) (sym w.same)
          (subst (λ (h : Option Variant). TickSame found file (plainly (Some (w.variant, s.cache.info))) (tick_of p phase active (held_found file s h))) (sym w.held)
          (from-valid w.variant s w.held w.same w.holds)))

      fresh : s.cache.valid ≡ false → (o : Option (Variant × Info)) → found ≡ o → TickSame found file (plainly o) (tick_of p phase active (fresh_found file s.samples o))
      fresh v None e = record { phase = refl; active = refl; value = refl; coherent = emptied-coherent found file _ (length-replicate (length s.samples) (pos 0) ∙ ok.room) }
      fresh v (Some (k, i)) e =
          from-valid k (stock (filled_with k i) s.samples) refl e
          (nothing-held (eqb i.version 3) (fragment_samples file k i) (fragment_state file k i) (stock (filled_with k i) s.samples) ok.room refl refl refl refl)

      go : (b : Bool) → s.cache.valid ≡ b → TickSame found file (plainly found) (cached_tick ram p phase active s)
      go true v = held v (ok.valid v)
      go false v =
          subst (λ (t : StreamTick Stock). TickSame found file (plainly found) t) (tick-by ram p s phase active (fresh_found file s.samples found) (found-fresh ram p s room v found refl))
          (fresh v found refl)
