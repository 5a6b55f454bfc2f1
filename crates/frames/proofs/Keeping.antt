-- A voice's ticks from silence on keep its channel accepted and in range, and the sides are sums of as many ticks. Assumes nothing.
use Rattle.std.proofs.Common.{◌≡◌, ℕ, zero, suc, ◌+◌, ◌^◌, ◌<◌, ◌≤◌, Bool, true, false, List, length, ℤ, sym, refl, ◌∙◌, subst, arith, w16, SFits, Option, Some, None}
use native.Mathlib.Nat as N
use Rattle.num.specs.Lists.{part}
use Rattle.num.proofs.Choice.{cond-by, both, together}
use Rattle.tone.specs.Mix.{stream_volume_of, stream_last_sample}
use Rattle.tone.proofs.Ranges.{last_fits}
use Rattle.tone.proofs.Sides.{ticks-wider}
use Rattle.tone.proofs.Streams as streams
use Rattle.version.specs.declared.SguVersion.{SguVersion}
use Rattle.registers.specs.Queue.{RangedFifo, FitFifo}
use Rattle.registers.specs.PlainQueue.{FitEntries}
use Rattle.registers.proofs.Accepted.{with-fifo, tick-ranged}
use Rattle.registers.specs.Waveforms.{is_sqv4}
use Rattle.stream.specs.Accepted.{accepts_cache}
use Rattle.stream.specs.Cache.{Stock, stock}
use Rattle.stream.specs.Tick.{FoundFile, absent, unheard, present, plan_of, played_by, tick_of}
use Rattle.stream.specs.Cached.{cached_found, cached_tick}
use Rattle.stream.specs.declared.Play.{Play}
use Rattle.stream.proofs.Keeps.{tick-keeps}
use Rattle.ticks.specs.Again.{again}
use Rattle.ticks.specs.Mix.{silence, Room}
use Rattle.ticks.specs.Oscillators.{accepts_oscillator}
use Rattle.ticks.specs.Queues.{queue_tick, queue_ticks}
use Rattle.ticks.specs.Settings.{setting_of}
use Rattle.ticks.specs.Sounds.{sound_ticks}
use Rattle.ticks.specs.declared.QueueSound.{QueueSound}
use Rattle.ticks.specs.declared.Sides.{Sides}
use Rattle.ticks.specs.declared.Target.{Target}
use Rattle.ticks.proofs.Ranges.{accepted-oscillator, oscillator-accepted}
use Rattle.ticks.proofs.Sums.{room-none, heard-room, begins, sound-steady, queue-steady}
use Rattle.voice.specs.Accepted.{accepts_stream, AcceptedChannel}
use Rattle.voice.specs.Sounding.{kind_of, play_of, silent_sound, after_sound, queue_sound_of, after_queue, served_of, stream_sound_of, after_stream}
use Rattle.voice.specs.Streaming.{Lent, lent, stream_tick, stream_ticks, stream_ticks_at}
use Rattle.voice.specs.declared.Channel.{Channel}
use Rattle.voice.specs.declared.Kind.TheVariants as kinds
use Rattle.voice.specs.declared.StreamSound.{StreamSound}
use Rattle.voice.proofs.Keeps.{fifo-there}
use Rattle.voice.proofs.Tests.{first-arm}
use Rattle.stream.proofs.Accepts.{accepts-free}
use Rattle.frames.specs.Kept.{EachByte, FitSounding, Kept}
use Rattle.frames.proofs.StreamRuns.{whole_is}

pub silent-room : (n : ℕ) → Room n silence
silent-room n = record { lefts = ticks-wider 0 n _ (omega arith) room-none.lefts; rights = ticks-wider 0 n _ (omega arith) room-none.rights }

pub plain-room : (n : ℕ) (v : Sides) → Room (0 + n) v → Room n v
plain-room n v r = subst (λ (k : ℕ). Room k v) (N.zero-add n) r

queues-ranged : (frequency panpot : ℕ) (q : List ℤ) → frequency < 2 ^ 16 → (n : ℕ) (v : QueueSound) → RangedFifo v.fifo → RangedFifo (queue_ticks n frequency panpot q v).fifo
unfolding queue_ticks queue_tick again
queues-ranged frequency panpot q h zero v a = a
queues-ranged frequency panpot q h (suc n) v a = tick-ranged (queue_ticks n frequency panpot q v).fifo q frequency h (queues-ranged frequency panpot q h n v a)

module _ (c : Channel) (version : SguVersion) (ram : List ℕ) (n : ℕ) (small : n ≤ 2 ^ 18) (a : AcceptedChannel c version (length ram)) (f : FitSounding c) where
  -- ---- an oscillator
  pub sound-kept : (w : List ℕ) (ch : ℕ) (own : Bool) (t : Target) → EachByte w → EachByte ram
      → (let v = sound_ticks n c.registers.waveform_type (setting_of c.registers c.pcm.sample_control version) c.pcm w ram ch own t (silent_sound c) in Kept version (length ram) n (after_sound c v) v.sides)
  unfolding accepts_stream
  sound-kept w ch own t tables bytes =
      let e =
      sound-steady (setting_of c.registers c.pcm.sample_control version) f.volume f.panpot c.pcm w ram (omega (arith, a.pcm.end)) (omega (arith, a.pcm.again)) tables bytes c.registers.waveform_type n 0 ch own t (silent_sound c) (omega arith)
      (begins c.oscillator (record { accepted = accepted-oscillator c.oscillator a.oscillator; fits = f.oscillator })) in
      record {
        accepted = record { registers = a.registers; pcm = a.pcm; oscillator = oscillator-accepted _ e.oscillator.accepted; fifo = a.fifo; stream = a.stream };
        fits = record { oscillator = e.oscillator.fits; fifo = f.fifo; volume = f.volume; panpot = f.panpot; frequency = f.frequency };
        room = plain-room n _ e.sides;
      }

-- ---- a queue
module _ (c : Channel) (version : SguVersion) (ram n : ℕ) (small : n ≤ 2 ^ 18) (k : kind_of c ≡ kinds.FifoDac) (a : AcceptedChannel c version ram) (f : FitSounding c) where
  pub queue-kept : (q : List ℤ) (r : QueueSound) → r ≡ queue_ticks n c.registers.frequency c.registers.panpot q (queue_sound_of c) → FitFifo r.fifo → Room n r.sides
      → Kept version ram n (after_queue c r) r.sides
  unfolding accepts_stream accepts_oscillator
  queue-kept q r e fits room = record {
    accepted = record { registers = a.registers; pcm = a.pcm; oscillator = a.oscillator; fifo = with-fifo version _ (fifo-there c version ram a k) (subst (λ (v : QueueSound). RangedFifo v.fifo) (sym e) (queues-ranged c.registers.frequency c.registers.panpot q f.frequency n (queue_sound_of c) a.fifo.ranges)); stream = a.stream };
    fits = record { oscillator = record { phase = f.oscillator.phase; lfsr = f.oscillator.lfsr; last = last_fits _ fits.sample }; fifo = fits; volume = f.volume; panpot = f.panpot; frequency = f.frequency };
    room = room;
  }

  -- from a buffer of samples
  pub queue-kept-from : (q : List ℤ) → FitEntries q
      → (let v = queue_ticks n c.registers.frequency c.registers.panpot q (queue_sound_of c) in Kept version ram n (after_queue c v) v.sides)
  queue-kept-from q entries =
      let e = queue-steady c.registers.frequency c.registers.panpot q f.frequency f.panpot entries n 0 (queue_sound_of c) (omega arith) (record { ranged = a.fifo.ranges; fits = f.fifo; sides = room-none }) in
      queue-kept q _ refl e.fits (plain-room n _ e.sides)

-- ---- a stream
module _ (ram : List ℕ) (p : Play) where
  found-phase : (phase : ℕ) (active : Bool) → phase < 2 ^ 64 → (x : FoundFile Stock) → (tick_of p phase active x).phase < 2 ^ 64
  found-phase phase active h (absent s) = h
  found-phase phase active h (unheard s) = h
  found-phase phase active h (present i read s) = by (plan_of i p phase)
    where
      by : (x : Option (ℕ × ℕ)) → (played_by read i p phase active s x).phase < 2 ^ 64
      by None = h
      by (Some (at, from)) = omega arith

  tick-phase : (phase : ℕ) (active : Bool) (s : Stock) → phase < 2 ^ 64 → (cached_tick ram p phase active s).phase < 2 ^ 64
  unfolding cached_tick
  tick-phase phase active s h = found-phase phase active h (cached_found ram p s)

  stream-volume-fits : (q8 : ℤ) (volume : ℕ) → volume ≤ 255 → SFits w16 (stream_volume_of q8 volume)
  unfolding stream_volume_of
  stream-volume-fits q8 volume h = streams.volume-fits q8 volume h

  -- a stream after m ticks from silence on
  pub record SteadyStream (m : ℕ) (s : Lent) : Type 0 where
    pub accepted : accepts_cache s.sound.voice.cache p.start p.end (length ram) ≡ true
    pub phase : s.sound.voice.phase < 2 ^ 64
    pub sides : Room m s.sound.sides

  module _ (volume panpot : ℕ) (gain : volume ≤ 255) (byte : panpot < 256) where
    stream-steady : (m : ℕ) (s : Lent) → m < 2 ^ 18 → SteadyStream m s → SteadyStream (m + 1) (stream_tick ram p volume panpot s)
    unfolding stream_tick
    stream-steady m s small e =
        let v = s.sound.voice in
        let t = cached_tick ram p v.phase v.active (stock v.cache s.samples) in
        cond-by (SteadyStream (m + 1)) v.active _ s
        (λ on. record {
          accepted = (tick-keeps ram p v.phase v.active (stock v.cache s.samples) e.accepted).accepted;
          phase = tick-phase v.phase v.active (stock v.cache s.samples) e.phase;
          sides = heard-room m s.sound.sides (stream_volume_of t.value volume) panpot small (stream-volume-fits t.value volume gain) byte e.sides;
        })
        (λ off. record { accepted = e.accepted; phase = e.phase; sides = wider e.sides })
      where
        wider : Room m s.sound.sides → Room (m + 1) s.sound.sides
        wider r = record { lefts = ticks-wider m (m + 1) _ (omega arith) r.lefts; rights = ticks-wider m (m + 1) _ (omega arith) r.rights }

    pub streams-steady : (n : ℕ) (s : Lent) → n ≤ 2 ^ 18 → SteadyStream 0 s → SteadyStream n (stream_ticks n ram p volume panpot s)
    unfolding stream_ticks again
    streams-steady zero s small e = e
    streams-steady (suc n) s small e = subst (λ (k : ℕ). SteadyStream k (stream_tick ram p volume panpot (stream_ticks n ram p volume panpot s))) (more n) (stream-steady n _ (omega arith) (streams-steady n s (omega arith) e))
      where
        more : (n : ℕ) → n + 1 ≡ suc n
        more n = omega arith

pub cache-accepted : (c : Channel) (ram : ℕ) → accepts_stream c ram ≡ true → accepts_cache c.stream c.pcm.start_addr c.pcm.end_addr ram ≡ true
unfolding accepts_stream
cache-accepted c ram e = go c.stream.valid refl
  where
    go : (b : Bool) → c.stream.valid ≡ b → accepts_cache c.stream c.pcm.start_addr c.pcm.end_addr ram ≡ true
    go true v = (both (is_sqv4 c.registers.waveform_type) _ (first-arm c.stream.valid _ true v ∙ e)).1
    go false v = accepts-free c.stream c.pcm.start_addr c.pcm.end_addr ram v

module _ (c : Channel) (version : SguVersion) (ram : List ℕ) (n : ℕ) (small : n ≤ 2 ^ 18) (a : AcceptedChannel c version (length ram)) (f : FitSounding c) (is : is_sqv4 c.registers.waveform_type ≡ true) where
  stream-stays : (v : StreamSound) → accepts_cache v.voice.cache c.pcm.start_addr c.pcm.end_addr (length ram) ≡ true → accepts_stream (after_stream c v) (length ram) ≡ true
  unfolding accepts_stream
  stream-stays v e = cond-by (λ (b : Bool). b ≡ true) v.voice.cache.valid _ true (λ h. together _ _ is e) (λ h. refl)

  after_kept : (s : Lent) → SteadyStream ram (play_of c version) n s → Kept version (length ram) n (after_stream c s.sound) s.sound.sides
  unfolding accepts_oscillator stream_last_sample
  after_kept s e = record {
    accepted = record {
      registers = a.registers;
      pcm = record { sample_control_of = a.pcm.sample_control_of; start = a.pcm.start; end = a.pcm.end; again = a.pcm.again };
      oscillator = a.oscillator;
      fifo = a.fifo;
      stream = stream-stays s.sound e.accepted;
    };
    fits = record { oscillator = record { phase = e.phase; lfsr = f.oscillator.lfsr; last = streams.last_fits s.sound.voice.q8 }; fifo = f.fifo; volume = f.volume; panpot = f.panpot; frequency = f.frequency };
    room = e.sides;
  }

  pub stream-kept : (samples : List ℤ) (base : ℕ) → base + 128 ≤ length samples
      → (let s = stream_ticks_at base n ram (play_of c version) c.registers.volume c.registers.panpot (lent (stream_sound_of c (served_of c)) samples) in Kept version (length ram) n (after_stream c s.sound) s.sound.sides)
  stream-kept samples base room =
      let s = lent (stream_sound_of c (served_of c)) samples in
      let begin : SteadyStream ram (play_of c version) 0 (lent s.sound (part samples base 128)) = record { accepted = cache-accepted c (length ram) a.stream; phase = f.oscillator.phase; sides = room-none } in
      subst (λ (v : Lent). Kept version (length ram) n (after_stream c v.sound) v.sound.sides) (sym (whole_is ram (play_of c version) c.registers.volume c.registers.panpot base s room n))
      (after_kept _ (streams-steady ram (play_of c version) c.registers.volume c.registers.panpot f.volume f.panpot n _ small begin))
