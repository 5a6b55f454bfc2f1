-- A turn of each kind of voice is its ticks one by one, keeps every voice accepted, and its sides fit the stems. Assumes nothing.
use Rattle.std.proofs.Common.{◌≡◌, ℕ, zero, suc, ◌+◌, ◌-◌, ◌*◌, ◌^◌, ◌<◌, ◌≤◌, Bool, true, false, cond, eqb, List, length, ℤ, sym, refl, ap, ◌∙◌, subst, arith, length-set, get_or-set_other, get_or-set_same, eqb-true}
use borrow.Author.Tests.{eqb-false}
use Rattle.sizes.specs.Sizes.{fifo_capacity, num_channels}
use Rattle.num.specs.Lists.{part}
use Rattle.tone.specs.Phase.{whole}
use Rattle.tone.proofs.Sides.{ticks-wider}
use Rattle.version.specs.declared.SguVersion.{SguVersion}
use Rattle.registers.specs.Control.{target_channel}
use Rattle.registers.specs.Pcm.{set_active}
use Rattle.registers.specs.Waveforms.{is_sqv4}
use Rattle.registers.specs.declared.WaveformType.{WaveformType}
use Rattle.registers.specs.declared.WaveformType.TheVariants as waveforms
use Rattle.ticks.specs.Mix.{silence, Room}
use Rattle.ticks.specs.Oscillators.{target_from}
use Rattle.ticks.specs.Queues.{queue_ticks}
use Rattle.ticks.specs.Settings.{setting_of}
use Rattle.ticks.specs.Sounds.{sound_ticks}
use Rattle.ticks.specs.declared.QueueSound.{QueueSound}
use Rattle.ticks.specs.declared.Sides.{Sides}
use Rattle.ticks.specs.declared.Sound.{Sound}
use Rattle.ticks.specs.declared.Target.{Target}
use Rattle.stream.specs.Accepted.{accepts_cache}
use Rattle.voice.specs.Accepted.{AcceptedChannel}
use Rattle.voice.specs.Channel.{set_pcm}
use Rattle.voice.specs.Serving.{served_ticks}
use Rattle.voice.specs.Sounding.{kind_of, play_of, silent_sound, after_sound, queue_sound_of, after_queue, window_at, served_of, after_served, stream_sound_of, after_stream}
use Rattle.voice.specs.Kinds.{sounding_of}
use Rattle.voice.specs.Streaming.{Lent, lent, stream_ticks_at}
use Rattle.voice.specs.declared.Channel.{Channel}
use Rattle.voice.specs.declared.Kind.{Kind}
use Rattle.voice.specs.declared.Kind.TheVariants as kinds
use Rattle.voice.specs.declared.Served.{Served}
use Rattle.voice.specs.declared.StreamSound.{StreamSound}
use Rattle.voices.specs.Accepted.{AcceptedCore}
use Rattle.voices.specs.Core.{no_channel, channel_at, set_channel, set_fragments}
use Rattle.voices.specs.declared.Core.{Core}
use Rattle.frames.specs.Kept.{EachByte, FitSounding, Kept, Keeps, KeepsFifo}
use Rattle.frames.specs.Ticking.{voiced, ticks_as, voice_ticks}
use Rattle.frames.proofs.Keeping.{silent-room, cache-accepted, stream-kept}
use Rattle.frames.proofs.ServedStreams.{ticks-most, rest_at, all-at}
use Rattle.frames.proofs.Stores.{stores, numbered, streams}
use Rattle.frames.proofs.StreamRuns.{whole_long}

-- a core between two turns
pub record Ready (version : SguVersion) (ram : ℕ) (core : Core) : Type 0 where
  pub accepted : AcceptedCore core version ram
  pub bytes : EachByte core.wavetables

-- a turn of n ticks of voice ch
pub record Turn (version : SguVersion) (ram : List ℕ) (queues : List ℤ) (ch n : ℕ) (core after : Core) (sides : Sides) : Type 0 where
  pub same : voiced after sides ≡ voice_ticks version ram queues ch n (voiced core silence)
  pub ready : Ready version (length ram) after
  pub room : Room 4 sides

pub turn_by : {version : SguVersion} {ram : List ℕ} {queues : List ℤ} {ch n : ℕ} {core after x : Core} {sides y : Sides} → x ≡ after → y ≡ sides → Turn version ram queues ch n core after sides → Turn version ram queues ch n core x y
turn_by {version} {ram} {queues} {ch} {n} {core} {after} {x} {sides} {y} e f t =
    subst (λ (z : Core). Turn version ram queues ch n core z y) (sym e) (subst (λ (v : Sides). Turn version ram queues ch n core after v) (sym f) t)

wider : (n : ℕ) (v : Sides) → n ≤ 4 → Room n v → Room 4 v
wider n v h r = record { lefts = ticks-wider n 4 _ h r.lefts; rights = ticks-wider n 4 _ h r.rights }

-- a stream's waveform
is-stream : (b : Bool) (w : WaveformType) → cond b (sounding_of w) kinds.Silent ≡ kinds.Sqv4 → is_sqv4 w ≡ true
is-stream b w e = by w (streams b (sounding_of w) e)
  where
    by : (w : WaveformType) → sounding_of w ≡ kinds.Sqv4 → is_sqv4 w ≡ true
    by waveforms.Sqv4 e = refl
    by waveforms.Wavetable e = absurd (let z : ◌≡◌ {A = ℕ} 1 2 = ap numbered e in omega arith)
    by waveforms.Pcm e = absurd (let z : ◌≡◌ {A = ℕ} 1 2 = ap numbered e in omega arith)
    by waveforms.Noise e = absurd (let z : ◌≡◌ {A = ℕ} 1 2 = ap numbered e in omega arith)
    by waveforms.DmaPcm e = absurd (let z : ◌≡◌ {A = ℕ} 1 2 = ap numbered e in omega arith)
    by waveforms.FifoDac e = absurd (let z : ◌≡◌ {A = ℕ} 3 2 = ap numbered e in omega arith)

sounds : (b : Bool) (k : Kind) → cond b k kinds.Silent ≡ kinds.Sqv4 → b ≡ true
sounds true k e = refl
sounds false k e = absurd (let z : ◌≡◌ {A = ℕ} 0 2 = ap numbered e in omega arith)

module _ (version : SguVersion) (ram : List ℕ) (queues : List ℤ) (ch n : ℕ) (core : Core) (low : 1 ≤ n) (high : n ≤ 4) (there : ch < num_channels) (r : Ready version (length ram) core) where
  abbrev c : Channel
  c = channel_at core ch

  a : AcceptedChannel c version (length ram)
  a = r.accepted.each ch there

  small : n ≤ 2 ^ 18
  small = omega arith

  room : ch * 128 + 128 ≤ length core.fragments
  room = omega (arith, r.accepted.sized.fragments)

  -- the ticks one by one are the ticks at once
  at_once : (k : Kind) → kind_of c ≡ k → ticks_as version ram queues ch n k (voiced core silence) c ≡ voice_ticks version ram queues ch n (voiced core silence)
  at_once k e = ap (λ (x : Kind). ticks_as version ram queues ch n x (voiced core silence) c) (sym e) ∙ sym (by n low)
    where
      by : (m : ℕ) → 1 ≤ m → voice_ticks version ram queues ch m (voiced core silence) ≡ ticks_as version ram queues ch m (kind_of c) (voiced core silence) c
      by zero h = absurd (omega arith)
      by (suc m) h = stores version ram queues ch (voiced core silence) (omega (arith, r.accepted.sized.channels)) room m

  -- one channel stored, the others as they were
  stored : (d : Channel) (samples : List ℤ) → AcceptedChannel d version (length ram) → length samples ≡ 1024 → Ready version (length ram) (set_fragments (set_channel core ch d) samples)
  stored d samples k long = record {
    accepted = record {
      sized = record { channels = length-set core.channels ch d ∙ r.accepted.sized.channels; fragments = long; wavetables = r.accepted.sized.wavetables };
      each = λ j h. by j (eqb j ch) refl h;
    };
    bytes = r.bytes;
  }
    where
      by : (j : ℕ) (b : Bool) → eqb j ch ≡ b → j < num_channels → AcceptedChannel (channel_at (set_fragments (set_channel core ch d) samples) j) version (length ram)
      by j true e h =
          subst (λ (x : Channel). AcceptedChannel x version (length ram))
          (sym (ap (λ (i : ℕ). channel_at (set_channel core ch d) i) (eqb-true j ch e) ∙ get_or-set_same core.channels ch d no_channel (omega (arith, r.accepted.sized.channels)))) k
      by j false e h = subst (λ (x : Channel). AcceptedChannel x version (length ram)) (sym (get_or-set_other core.channels ch j d no_channel (eqb-false j ch e))) (r.accepted.each j h)

  pub silent-turn : kind_of c ≡ kinds.Silent → Turn version ram queues ch n core core silence
  silent-turn e = record { same = at_once kinds.Silent e; ready = r; room = silent-room 4 }

  pub sound-turn : kind_of c ≡ kinds.Oscillator → (k : ℕ) (t : Target) (v : Sound) (d : Channel) → k ≡ target_channel c.registers ch
      → t ≡ target_from (channel_at core k).oscillator version (channel_at core k).pcm.sample_control
      → v ≡ sound_ticks n c.registers.waveform_type (setting_of c.registers c.pcm.sample_control version) c.pcm core.wavetables ram ch (eqb (target_channel c.registers ch) ch) t (silent_sound c)
      → Keeps version (length ram) n c (after_sound c v) v.sides → d ≡ after_sound c v → Turn version ram queues ch n core (set_channel core ch d) v.sides
  sound-turn e k t v d ek et ev kept ed =
      let s = kept a in
      record {
        same =
            ap (λ (x : Channel). voiced (set_channel core ch x) v.sides) ed
            ∙ ap (λ (x : Sound). voiced (set_channel core ch (after_sound c x)) x.sides) (ev ∙ ap (λ (x : Target). sound_ticks n c.registers.waveform_type (setting_of c.registers c.pcm.sample_control version) c.pcm core.wavetables ram ch (eqb (target_channel c.registers ch) ch) x (silent_sound c)) (et ∙ ap (λ (i : ℕ). target_from (channel_at core i).oscillator version (channel_at core i).pcm.sample_control) ek))
            ∙ at_once kinds.Oscillator e;
        ready = stored d core.fragments (subst (λ (x : Channel). AcceptedChannel x version (length ram)) (sym ed) s.accepted) r.accepted.sized.fragments;
        room = wider n _ high s.room;
      }

  pub queue-turn : kind_of c ≡ kinds.FifoDac → (v : QueueSound) (d : Channel) → v ≡ queue_ticks n c.registers.frequency c.registers.panpot (part queues (ch * fifo_capacity) fifo_capacity) (queue_sound_of c)
      → KeepsFifo version n c (after_queue c v) v.sides → d ≡ after_queue c v → Turn version ram queues ch n core (set_channel core ch d) v.sides
  queue-turn e v d ev kept ed =
      let s = kept e (length ram) a in
      record {
        same = ap (λ (x : Channel). voiced (set_channel core ch x) v.sides) ed ∙ ap (λ (x : QueueSound). voiced (set_channel core ch (after_queue c x)) x.sides) ev ∙ at_once kinds.FifoDac e;
        ready = stored d core.fragments (subst (λ (x : Channel). AcceptedChannel x version (length ram)) (sym ed) s.accepted) r.accepted.sized.fragments;
        room = wider n _ high s.room;
      }

  -- ---- a stream
  module _ (e : kind_of c ≡ kinds.Sqv4) (f : FitSounding c) (s : Served) (es : s ≡ served_ticks n (window_at c) core.fragments (ch * 128) (play_of c version) c.registers.volume c.registers.panpot (served_of c)) where
    abbrev all : Lent
    all = stream_ticks_at (ch * 128) n ram (play_of c version) c.registers.volume c.registers.panpot (lent (stream_sound_of c (served_of c)) core.fragments)

    pub whole-kept : Kept version (length ram) n (after_stream c all.sound) all.sound.sides
    whole-kept = stream-kept c version ram n small a f (is-stream c.pcm.active c.registers.waveform_type e) core.fragments (ch * 128) room

    pub whole-turn : (v : Lent) (d : Channel) → v ≡ all → d ≡ after_stream c v.sound → Turn version ram queues ch n core (set_fragments (set_channel core ch d) v.samples) v.sound.sides
    whole-turn v d ev ed =
        let k = subst (λ (x : Lent). Kept version (length ram) n (after_stream c x.sound) x.sound.sides) (sym ev) whole-kept in
        record {
          same = ap (λ (x : Channel). voiced (set_fragments (set_channel core ch x) v.samples) v.sound.sides) ed ∙ ap (λ (x : Lent). voiced (set_fragments (set_channel core ch (after_stream c x.sound)) x.samples) x.sound.sides) ev ∙ at_once kinds.Sqv4 e;
          ready = stored d v.samples (subst (λ (x : Channel). AcceptedChannel x version (length ram)) (sym ed) k.accepted) (ap (λ (x : Lent). length x.samples) ev ∙ whole_long ram (play_of c version) c.registers.volume c.registers.panpot (ch * 128) (lent (stream_sound_of c (served_of c)) core.fragments) room n ∙ r.accepted.sized.fragments);
          room = wider n _ high k.room;
        }

    abbrev size : length core.fragments ≡ 1024
    size = r.accepted.sized.fragments

    taken : accepts_cache c.stream c.pcm.start_addr c.pcm.end_addr (length ram) ≡ true
    taken = cache-accepted c (length ram) a.stream

    pub served-most : s.ticks ≤ n
    served-most = ticks-most c.stream (whole c.oscillator.phase) core.fragments (ch * 128) size (omega arith) ram (play_of c version) c.registers.volume c.registers.panpot taken n (served_of c) s (omega arith) refl f.oscillator.phase es

    pub served-turn : (d : Channel) → s.ticks ≡ n → d ≡ after_served c s → Turn version ram queues ch n core (set_channel core ch d) s.sides
    served-turn d et ed =
        whole-turn (lent (stream_sound_of c s) core.fragments) d
        (sym (all-at c.stream (whole c.oscillator.phase) core.fragments (ch * 128) size (omega arith) ram (play_of c version) c.registers.volume c.registers.panpot taken n (served_of c) s (omega arith) refl f.oscillator.phase es et))
        (ed ∙ ap (λ (b : Bool). set_pcm (after_served c s) (set_active c.pcm b)) (sounds c.pcm.active (sounding_of c.registers.waveform_type) e))

    pub stream-turn : (v : StreamSound) (samples : List ℤ) (d : Channel)
        → lent v samples ≡ stream_ticks_at (ch * 128) (n - s.ticks) ram (play_of c version) c.registers.volume c.registers.panpot (lent (stream_sound_of c s) core.fragments)
        → d ≡ after_stream c v → Turn version ram queues ch n core (set_fragments (set_channel core ch d) samples) v.sides
    stream-turn v samples d ev ed =
        whole-turn (lent v samples) d
        (ev ∙ sym (rest_at c.stream (whole c.oscillator.phase) core.fragments (ch * 128) size (omega arith) ram (play_of c version) c.registers.volume c.registers.panpot taken n (served_of c) s (omega arith) refl f.oscillator.phase es))
        ed
