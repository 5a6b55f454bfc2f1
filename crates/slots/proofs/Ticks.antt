-- A tick of a good voice, seen as a plain voice, is the plain tick: the same voice, the same sides and the same value ahead of the volume.
-- The voice stays good. Assumes nothing.
use Rattle.std.specs.Prelude.{Option, Some, None}
use mathlib.Core.Path.{◌≡◌, refl, sym, ap, ◌∙◌, subst}
use mathlib.Core.Bool.{Bool, true, false, cond, ◌&&◌}
use mathlib.Core.List.{List}
use Prim.Native.Nat.{ℕ, ◌*◌, ◌%◌, ◌^◌, ◌<◌}
use native.Mathlib.Omega.{arith}
use lib.Dec.{eqb}
use lib.IntN.{ℤ}
use lib.ListN.{length}
use Rattle.num.proofs.Choice.{cond-by, both, together}
use Rattle.tone.specs.Mix.{last_sample_of, stream_last_sample, stream_volume_of}
use Rattle.tone.proofs.Ranges.{last_fits}
use Rattle.tone.proofs.Streams as streams
use Rattle.version.specs.declared.SguVersion.{SguVersion}
use Rattle.registers.specs.Waveforms.{is_sqv4}
use Rattle.registers.specs.Pcm.{set_active}
use Rattle.registers.specs.Queue.{ticked, plain_queue_of}
use Rattle.registers.specs.PlainQueue.{PlainQueue, plain_ticked}
use Rattle.registers.specs.declared.PcmRegisters.{PcmRegisters}
use Rattle.registers.specs.declared.WaveformType.{WaveformType}
use Rattle.registers.specs.declared.WaveformType.TheVariants as waveforms
use Rattle.registers.proofs.Accepted.{with-fifo, tick-ranged, active-accepted}
use Rattle.registers.proofs.Ranges.{tick-fits}
use Rattle.registers.proofs.Ring.{line-ticked}
use Rattle.ticks.specs.Again.{again}
use Rattle.ticks.specs.Oscillators.{accepts_oscillator, set_phase, set_last}
use Rattle.ticks.specs.Settings.{setting_of}
use Rattle.ticks.specs.Wavetable.{wavetable_tick}
use Rattle.ticks.specs.Pcm.{pcm_tick}
use Rattle.ticks.specs.Mix.{heard, sound_after}
use Rattle.ticks.specs.Sounds.{Tick, ticks_of, noise_of, dma_of, sound_ticks}
use Rattle.ticks.specs.Queues.{queue_tick, queue_ticks}
use Rattle.ticks.specs.declared.Oscillator.{Oscillator}
use Rattle.ticks.specs.declared.Setting.{Setting}
use Rattle.ticks.specs.declared.Target.{Target}
use Rattle.ticks.specs.declared.Sides.{Sides}
use Rattle.ticks.specs.declared.Sound.{Sound}
use Rattle.ticks.proofs.Ranges.{Good, GoodTick, accepted-oscillator, oscillator-accepted, with-last, wavetable-good, pcm-good, noise-good, dma-good}
use Rattle.stream.specs.Accepted.{accepts_cache}
use Rattle.stream.specs.Cache.{stock}
use Rattle.adpcm.specs.declared.Variant.{Variant}
use Rattle.stream.specs.File.{source_of, opened_from}
use Rattle.sqv4.specs.Files.{inspected}
use Rattle.stream.specs.Tick.{Given, plan_of, played_by, tick_of}
use Rattle.stream.specs.Plain.{whole_in, whole_read, plain_found, plain_tick}
use Rattle.stream.specs.Cached.{cached_tick}
use Rattle.stream.specs.declared.Info.{Info}
use Rattle.stream.specs.declared.Play.{Play}
use Rattle.stream.proofs.Accepts.{accepts-free}
use Rattle.stream.proofs.Same.{tick-same}
use Rattle.stream.proofs.Keeps.{tick-keeps}
use Rattle.voice.specs.Kinds.{sounding_of}
use Rattle.voice.specs.Sounding.{kind_of, play_of}
use Rattle.voice.specs.Streaming.{stream_tick, stream_ticks}
use Rattle.voice.specs.Accepted.{accepts_stream}
use Rattle.voice.specs.declared.Channel.{Channel}
use Rattle.voice.specs.declared.Kind.{Kind}
use Rattle.voice.specs.declared.Kind.TheVariants.{Silent, Sqv4, FifoDac}
use Rattle.voice.specs.declared.Kind.TheVariants as kinds
use Rattle.voice.proofs.Keeps.{fifo-there}
use Rattle.slots.specs.Slots.{Slot, plain_of}
use Rattle.plain_chip.specs.Voices.{PlainVoice, with_pcm, with_oscillator, with_plain_queue}
use Rattle.plain_chip.specs.Ticks.{VoiceTick, still, plain_sound, plain_stream, plain_fifo, plain_tick_as, plain_voice_tick}
use Rattle.slots.specs.Ticks.{slot_sound, slot_stream, slot_fifo, slot_tick_as, slot_tick}
use Rattle.plain_chip.specs.Good.{Bytes}
use Rattle.slots.specs.Good.{SlotOk}

pub record SameTick (version : SguVersion) (ram : List ℕ) (a : VoiceTick Slot) (b : VoiceTick PlainVoice) : Type 0 where
  pub voice : plain_of a.voice ≡ b.voice
  pub sides : a.sides ≡ b.sides
  pub value : a.value ≡ b.value
  pub ok : SlotOk version ram a.voice

-- ---- neither stream nor queue
one-good : (tick : Tick) (s : Setting) (own : Bool) (t : Target) (v : Sound) → ((t : Target) (o : Oscillator) → Good o → GoodTick (tick t o)) → Good v.oscillator
    → Good (ticks_of 1 tick s own t v).oscillator
unfolding ticks_of again sound_after
one-good tick s own t v good g = with-last _ (good _ v.oscillator g)

sound-good : (k : WaveformType) (s : Setting) (p : PcmRegisters) (w ram : List ℕ) (ch : ℕ) (own : Bool) (t : Target) (v : Sound) → Bytes w → Bytes ram → p.end_addr < 2 ^ 32 → p.loop_addr < 2 ^ 32
    → Good v.oscillator → Good (sound_ticks 1 k s p w ram ch own t v).oscillator
sound-good waveforms.Wavetable s p w ram ch own t v bytes rams end loop g = one-good (wavetable_tick s w (ch % 8 * 256)) s own t v (λ t o g. wavetable-good s w (ch % 8 * 256) t o bytes.each g) g
sound-good waveforms.Pcm s p w ram ch own t v bytes rams end loop g =
    cond-by (λ (x : Sound). Good x.oscillator) (eqb (length ram) 0) v _ (λ e. g)
    (λ e. one-good (pcm_tick s p ram) s own t v (λ t o g. pcm-good s p ram t o rams.each end loop g) g)
sound-good waveforms.Noise s p w ram ch own t v bytes rams end loop g = one-good (noise_of s) s own t v (λ t o g. noise-good s o g) g
sound-good waveforms.DmaPcm s p w ram ch own t v bytes rams end loop g = one-good dma_of s own t v (λ t o g. dma-good o g) g
sound-good waveforms.Sqv4 s p w ram ch own t v bytes rams end loop g = g
sound-good waveforms.FifoDac s p w ram ch own t v bytes rams end loop g = g

-- ---- a stream
-- an accepted channel's cache is accepted
cache-accepted : (c : Channel) (n : ℕ) → accepts_stream c n ≡ true → accepts_cache c.stream c.pcm.start_addr c.pcm.end_addr n ≡ true
unfolding accepts_stream
cache-accepted c n a = go c.stream.valid refl
  where
    rest : Bool
    rest = is_sqv4 c.registers.waveform_type && accepts_cache c.stream c.pcm.start_addr c.pcm.end_addr n

    go : (b : Bool) → c.stream.valid ≡ b → accepts_cache c.stream c.pcm.start_addr c.pcm.end_addr n ≡ true
    go true v = (both (is_sqv4 c.registers.waveform_type) _ (sym (ap (λ (b : Bool). cond b rest true) v) ∙ a)).1
    go false v = accepts-free c.stream c.pcm.start_addr c.pcm.end_addr n v

always : (b : Bool) {x : Bool} → x ≡ true → cond b x true ≡ true
always true e = e
always false e = refl

played-phase : (read : Unit {0} → ℕ → Given (Unit {0})) (i : Info) (p : Play) (phase : ℕ) (active : Bool) (plan : Option (ℕ × ℕ)) → phase < 2 ^ 64 → (played_by read i p phase active tt plan).phase < 2 ^ 64
played-phase read i p phase active None h = h
played-phase read i p phase active (Some (at, from)) h = omega arith

found-phase : (whole : List ℤ) (p : Play) (phase : ℕ) (active : Bool) (o : Option (Variant × Info)) → phase < 2 ^ 64 → (tick_of p phase active (plain_found whole o)).phase < 2 ^ 64
found-phase whole p phase active None h = h
found-phase whole p phase active (Some (k, i)) h = played-phase (whole_read whole) i p phase active (plan_of i p phase) h

plain-phase : (ram : List ℕ) (p : Play) (phase : ℕ) (active : Bool) → phase < 2 ^ 64 → (plain_tick ram p phase active).phase < 2 ^ 64
unfolding plain_tick
plain-phase ram p phase active h =
    let src = source_of ram p.start p.end in
    found-phase (whole_in src.bytes (inspected src.bytes)) p phase active (opened_from src p.wants_v3 p.start p.loop_addr) h

-- ---- each kind of voice
module _ (version : SguVersion) (ram : List ℕ) (t : Target) (sides : Sides) (s : Slot) (ok : SlotOk version ram s) (bytes : Bytes ram) where
  abbrev c : Channel
  c = s.channel

  oscillator : Good c.oscillator
  oscillator = record { accepted = accepted-oscillator c.oscillator ok.accepted.oscillator; fits = ok.fits.oscillator }

  same-sound : SameTick version ram (slot_sound version ram t sides s) (plain_sound version ram t sides (plain_of s))
  unfolding slot_sound plain_sound accepts_stream
  same-sound =
      let g = sound-good c.registers.waveform_type (setting_of c.registers c.pcm.sample_control version) c.pcm s.wavetable ram 0 false t (record { oscillator = c.oscillator; sides = sides })
      ok.bytes bytes (omega (arith, ok.accepted.pcm.end)) (omega (arith, ok.accepted.pcm.again)) oscillator in
      record {
        voice = refl;
        sides = refl;
        value = refl;
        ok = record {
          accepted = record { registers = ok.accepted.registers; pcm = ok.accepted.pcm; oscillator = oscillator-accepted _ g.accepted; fifo = ok.accepted.fifo; stream = ok.accepted.stream };
          coherent = ok.coherent;
          fits = record { registers = ok.fits.registers; pcm = ok.fits.pcm; oscillator = g.fits; fifo = ok.fits.fifo };
          table = ok.table;
          bytes = ok.bytes;
          room = ok.room;
          entries = ok.entries;
        };
      }

  same-fifo : kind_of c ≡ FifoDac → SameTick version ram (slot_fifo version ram t sides s) (plain_fifo version ram t sides (plain_of s))
  unfolding slot_fifo plain_fifo queue_ticks queue_tick again accepts_stream accepts_oscillator
  same-fifo kind =
      let q = s.queue in
      let n = c.registers.frequency in
      let e : plain_queue_of q (ticked c.fifo q n) ≡ plain_ticked (plain_queue_of q c.fifo) n = line-ticked c.fifo q n in
      let f = tick-fits c.fifo q n ok.entries ok.fits.fifo in
      record {
        voice = ap (λ (l : PlainQueue). with_plain_queue (with_oscillator (plain_of s) (set_last c.oscillator (last_sample_of l.held))) l) e;
        sides = ap (λ (l : PlainQueue). heard sides l.held c.registers.panpot) e;
        value = ap (λ (l : PlainQueue). l.held) e;
        ok = record {
          accepted = record { registers = ok.accepted.registers; pcm = ok.accepted.pcm; oscillator = ok.accepted.oscillator; fifo = with-fifo version _ (fifo-there c version (length ram) ok.accepted kind) (tick-ranged c.fifo q n ok.fits.registers.frequency ok.accepted.fifo.ranges); stream = ok.accepted.stream };
          coherent = ok.coherent;
          fits = record { registers = ok.fits.registers; pcm = ok.fits.pcm; oscillator = record { phase = ok.fits.oscillator.phase; lfsr = ok.fits.oscillator.lfsr; last = last_fits (ticked c.fifo q n).held f.sample }; fifo = f };
          table = ok.table;
          bytes = ok.bytes;
          room = ok.room;
          entries = ok.entries;
        };
      }

  same-stream : is_sqv4 c.registers.waveform_type ≡ true → SameTick version ram (slot_stream version ram t sides s) (plain_stream version ram t sides (plain_of s))
  unfolding slot_stream plain_stream stream_ticks stream_tick again accepts_stream accepts_oscillator stream_last_sample
  same-stream w =
      let p = play_of c version in
      let k = stock c.stream s.fragments in
      let a = cache-accepted c (length ram) ok.accepted.stream in
      let r = tick-same ram p c.oscillator.phase true k ok.coherent a in
      let m = tick-keeps ram p c.oscillator.phase true k a in
      let x = cached_tick ram p c.oscillator.phase true k in
      record {
        voice = λ i. with_pcm (with_oscillator (plain_of s) (set_last (set_phase c.oscillator (r.phase i)) (stream_last_sample (r.value i)))) (set_active c.pcm (r.active i));
        sides = ap (λ (x : ℤ). heard sides (stream_volume_of x c.registers.volume) c.registers.panpot) r.value;
        value = r.value;
        ok = record {
          accepted = record { registers = ok.accepted.registers; pcm = active-accepted c.pcm _ ok.accepted.pcm; oscillator = ok.accepted.oscillator; fifo = ok.accepted.fifo; stream = always x.stream.cache.valid (together _ _ w m.accepted) };
          coherent = r.coherent;
          fits = record { registers = ok.fits.registers; pcm = record { control = ok.fits.pcm.control }; oscillator = record { phase = subst (λ (n : ℕ). n < 2 ^ 64) (sym r.phase) (plain-phase ram p c.oscillator.phase true ok.fits.oscillator.phase); lfsr = ok.fits.oscillator.lfsr; last = streams.last_fits x.value }; fifo = ok.fits.fifo };
          table = ok.table;
          bytes = ok.bytes;
          room = ok.room;
          entries = ok.entries;
        };
      }

  same-silent : SameTick version ram (still sides s) (still sides (plain_of s))
  same-silent = record { voice = refl; sides = refl; value = refl; ok = ok }

-- ---- the tick
stream-kind : (w : WaveformType) → sounding_of w ≡ Sqv4 → is_sqv4 w ≡ true
stream-kind waveforms.Wavetable e = cc
stream-kind waveforms.Pcm e = cc
stream-kind waveforms.Noise e = cc
stream-kind waveforms.DmaPcm e = cc
stream-kind waveforms.Sqv4 e = refl
stream-kind waveforms.FifoDac e = cc

active-kind : (b : Bool) (k : Kind) → cond b k Silent ≡ Sqv4 → k ≡ Sqv4
active-kind true k e = e
active-kind false k e = cc

-- a tick of a good voice is the plain tick
pub same-tick : (version : SguVersion) (ram : List ℕ) (t : Target) (sides : Sides) (s : Slot) → SlotOk version ram s → Bytes ram
    → SameTick version ram (slot_tick version ram t sides s) (plain_voice_tick version ram t sides (plain_of s))
unfolding slot_tick plain_voice_tick
same-tick version ram t sides s ok bytes = go (kind_of s.channel) refl
  where
    go : (k : Kind) → kind_of s.channel ≡ k → SameTick version ram (slot_tick_as version ram t sides k s) (plain_tick_as version ram t sides k (plain_of s))
    go Silent e = same-silent version ram t sides s ok bytes
    go kinds.Oscillator e = same-sound version ram t sides s ok bytes
    go Sqv4 e = same-stream version ram t sides s ok bytes (stream-kind s.channel.registers.waveform_type (active-kind s.channel.pcm.active _ e))
    go FifoDac e = same-fifo version ram t sides s ok bytes e
