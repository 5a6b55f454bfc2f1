-- A stream's ticks keep the count of its samples; one tick more, taken out of the array and put back. Assumes nothing.
use Rattle.std.proofs.Common.{◌≡◌, ℕ, zero, suc, ◌+◌, ◌≤◌, Bool, true, false, eqb, leb, List, length, ℤ, pos, sym, refl, ap, ◌∙◌, le-leb}
use lib.Seq.{sets, length-sets}
use Rattle.num.specs.Lists.{part}
use Rattle.num.proofs.Choice.{cond-by}
use Rattle.stream.specs.Cache.{Stock, stock}
use Rattle.stream.specs.Accepted.{accepts_cache}
use Rattle.stream.specs.Tick.{StreamTick, unheard}
use Rattle.stream.specs.Cached.{cached_tick}
use Rattle.stream.specs.declared.Play.{Play}
use Rattle.stream.proofs.Accepts.{accepts-free}
use Rattle.stream.proofs.Founds.{found-short, found-odd, tick-by}
use Rattle.stream.proofs.Keeps.{tick-keeps}
use Rattle.ticks.specs.Again.{again}
use Rattle.voice.specs.Streaming.{Lent, lent, stream_heard, stream_tick, stream_ticks, stream_ticks_at, placed_at}
use Rattle.voice.specs.declared.StreamSound.{StreamSound}
use Rattle.voice.proofs.Tests.{first-arm}
use Rattle.voice.proofs.StreamTicks.{ended}
use Rattle.frames.proofs.Parts.{part_length, part-put, put-twice}

module _ (ram : List ℕ) (p : Play) where
  -- whether the cache is accepted or not
  tick-long : (phase : ℕ) (active : Bool) (s : Stock) → length (cached_tick ram p phase active s).stream.samples ≡ length s.samples
  tick-long phase active s = short (eqb (length s.samples) 128) refl
    where
      same : cached_tick ram p phase active s ≡ record { stream = s; phase = phase; active = active; value = pos 0 } → length (cached_tick ram p phase active s).stream.samples ≡ length s.samples
      same e = ap (λ (t : StreamTick Stock). length t.stream.samples) e

      kept : accepts_cache s.cache p.start p.end (length ram) ≡ true → length (cached_tick ram p phase active s).stream.samples ≡ length s.samples
      kept a = (tick-keeps ram p phase active s a).long

      go : eqb (length s.samples) 128 ≡ true → (b : Bool) → s.cache.valid ≡ b → (a : Bool) → accepts_cache s.cache p.start p.end (length ram) ≡ a → length (cached_tick ram p phase active s).stream.samples ≡ length s.samples
      go r b v true a = kept a
      go r true v false a = same (sym (tick-by ram p s phase active (unheard s) (found-odd ram p s r v a)))
      go r false v false a = kept (accepts-free s.cache p.start p.end (length ram) v)

      short : (b : Bool) → eqb (length s.samples) 128 ≡ b → length (cached_tick ram p phase active s).stream.samples ≡ length s.samples
      short true r = go r s.cache.valid refl _ refl
      short false r = same (sym (tick-by ram p s phase active (unheard s) (found-short ram p s r)))

  module _ (volume panpot : ℕ) where
    pub stream-long : (s : Lent) → length (stream_tick ram p volume panpot s).samples ≡ length s.samples
    unfolding stream_tick
    stream-long s =
        cond-by (λ (t : Lent). length t.samples ≡ length s.samples) s.sound.voice.active _ s
        (λ e. tick-long s.sound.voice.phase s.sound.voice.active (stock s.sound.voice.cache s.samples)) (λ e. refl)

    pub streams-long : (n : ℕ) (s : Lent) → length (stream_ticks n ram p volume panpot s).samples ≡ length s.samples
    unfolding stream_ticks again
    streams-long zero s = refl
    streams-long (suc n) s = stream-long (stream_ticks n ram p volume panpot s) ∙ streams-long n s

    -- the tick of an active voice looks neither at its flag nor at its last value
    active-tick : (v : StreamSound) (samples : List ℤ) (q8 : ℤ) → v.voice.active ≡ true
        → stream_tick ram p volume panpot (lent (record { voice = record { cache = v.voice.cache; phase = v.voice.phase; active = true; q8 = q8 }; sides = v.sides }) samples) ≡ stream_tick ram p volume panpot (lent v samples)
    unfolding stream_tick
    active-tick v samples q8 e =
        ap (λ (b : Bool). stream_heard volume panpot v.sides (cached_tick ram p v.voice.phase b (stock v.voice.cache samples))) (sym e)
        ∙ first-arm _ (stream_heard volume panpot v.sides (cached_tick ram p v.voice.phase v.voice.active (stock v.voice.cache samples))) (lent v samples) e

    module _ (base : ℕ) (s : Lent) (room : base + 128 ≤ length s.samples) where
      abbrev own : ℕ → Lent
      own n = stream_ticks n ram p volume panpot (lent s.sound (part s.samples base 128))

      abbrev whole : ℕ → Lent
      whole n = stream_ticks_at base n ram p volume panpot s

      own-long : (n : ℕ) → length (own n).samples ≡ 128
      own-long n = streams-long n (lent s.sound (part s.samples base 128)) ∙ part_length s.samples base 128 room

      pub whole_is : (n : ℕ) → whole n ≡ placed_at base s.samples (own n)
      unfolding stream_ticks_at
      whole_is n = sym (first-arm _ (placed_at base s.samples (own n)) s (le-leb (base + 128) (length s.samples) room))

      pub whole_long : (n : ℕ) → length (whole n).samples ≡ length s.samples
      whole_long n = ap (λ (t : Lent). length t.samples) (whole_is n) ∙ length-sets s.samples base (own n).samples

      own-more : (n : ℕ) → own (suc n) ≡ stream_tick ram p volume panpot (own n)
      unfolding stream_ticks again
      own-more n = refl

      pub over : (n : ℕ) → (whole n).sound.voice.active ≡ false → whole (suc n) ≡ whole n
      over n e =
          let f : (own n).sound.voice.active ≡ false = ap (λ (t : Lent). t.sound.voice.active) (sym (whole_is n)) ∙ e in
          whole_is (suc n) ∙ ap (placed_at base s.samples) (own-more n ∙ sym (ended ram p volume panpot (own n).sound (own n).samples f)) ∙ sym (whole_is n)

      -- the voice taken out of the array after n ticks, ticked, and put back
      abbrev again-from : Lent → Lent
      again-from t = lent (record { voice = record { cache = t.sound.voice.cache; phase = t.sound.voice.phase; active = true; q8 = pos 0 }; sides = t.sound.sides }) t.samples

      pub goes-on : (n : ℕ) → (whole n).sound.voice.active ≡ true → stream_ticks_at base 1 ram p volume panpot (again-from (whole n)) ≡ whole (suc n)
      unfolding stream_ticks_at stream_ticks again
      goes-on n e =
          let f : (own n).sound.voice.active ≡ true = ap (λ (t : Lent). t.sound.voice.active) (sym (whole_is n)) ∙ e in
          let m = own n in
          let put : List ℤ = sets s.samples base m.samples in
          let long : base + 128 ≤ length put = simp length-sets room in
          let x : Lent = stream_tick ram p volume panpot m in
          ap (λ (t : Lent). stream_ticks_at base 1 ram p volume panpot (again-from t)) (whole_is n)
          ∙ sym (first-arm (leb (base + 128) (length put)) (placed_at base put (stream_tick ram p volume panpot (lent (again-from m).sound (part put base 128)))) (lent (again-from m).sound put) (le-leb (base + 128) (length put) long))
          ∙ ap (λ (l : List ℤ). placed_at base put (stream_tick ram p volume panpot (lent (again-from m).sound l))) (part-put s.samples m.samples base 128 room (own-long n))
          ∙ ap (placed_at base put) (active-tick m.sound m.samples (pos 0) f)
          ∙ ap (lent x.sound) (put-twice s.samples m.samples base 128 room (own-long n) x.samples (stream-long m ∙ own-long n))
          ∙ sym (whole_is (suc n))
