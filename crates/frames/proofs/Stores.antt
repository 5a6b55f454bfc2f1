-- Ticks of a voice stored one by one are its ticks stored at once. Assumes nothing.
use Rattle.std.proofs.Common.{◌≡◌, ℕ, zero, suc, ◌+◌, ◌*◌, ◌<◌, ◌≤◌, Bool, true, false, cond, eqb, List, length, ℤ, pos, sym, refl, ap, ◌∙◌, arith, get_or-set_other, get_or-set_same, set-set, eqb-true}
use borrow.Author.Tests.{eqb-false}
use Rattle.tone.specs.Taps.{wave_cycle}
use Rattle.version.specs.Versions.{wavetable_mask_of}
use Rattle.version.specs.declared.SguVersion.{SguVersion}
use Rattle.registers.specs.Control.{target_channel}
use Rattle.registers.specs.declared.PcmRegisters.{PcmRegisters}
use Rattle.registers.specs.declared.WaveformType.{WaveformType}
use Rattle.registers.specs.declared.WaveformType.TheVariants as waveforms
use Rattle.ticks.specs.Again.{again}
use Rattle.ticks.specs.Mix.{sound_after}
use Rattle.ticks.specs.Oscillators.{target_from}
use Rattle.ticks.specs.Pcm.{pcm_tick}
use Rattle.ticks.specs.Queues.{queue_ticks}
use Rattle.ticks.specs.Sounds.{Tick, target_for, ticks_of, noise_of, dma_of, sound_ticks}
use Rattle.ticks.specs.declared.Oscillator.{Oscillator}
use Rattle.ticks.specs.declared.Setting.{Setting}
use Rattle.ticks.specs.declared.Sides.{Sides}
use Rattle.ticks.specs.declared.Sound.{Sound}
use Rattle.ticks.specs.declared.Target.{Target}
use Rattle.voice.specs.Sounding.{kind_of, play_of, after_sound, after_queue, after_stream}
use Rattle.voice.specs.Kinds.{sounding_of}
use Rattle.voice.specs.Streaming.{Lent, lent}
use Rattle.voice.specs.declared.Channel.{Channel}
use Rattle.voice.specs.declared.Kind.{Kind}
use Rattle.voice.specs.declared.Kind.TheVariants as kinds
use Rattle.voices.specs.Core.{no_channel, channel_at, set_channel}
use Rattle.voices.specs.declared.Core.{Core}
use Rattle.frames.specs.Ticking.{Voiced, voiced, sound_from, queue_from, stream_from, sound_stored, stream_stored, ticks_as, voice_tick, voice_ticks}
use Rattle.frames.proofs.StreamRuns.{over, goes-on}

twice : {A : Type 0} (b : Bool) (v x y : A) (f : A → A) → f x ≡ y → cond b (cond b v x) (f (cond b v x)) ≡ cond b v y
twice true v x y f e = refl
twice false v x y f e = e

again-still : {A : Type 0} (f : A → A) (x : A) → f x ≡ x → (n : ℕ) → again n f x ≡ x
unfolding again
again-still f x e zero = refl
again-still f x e (suc n) = ap f (again-still f x e n) ∙ e

-- ---- one tick more of an oscillator, whose target is told anew
module _ (s : Setting) (own : Bool) (t u : Target) (same : (o : Oscillator) → target_for own u o ≡ target_for own t o) where
  ticks-next : (tick : Tick) (n : ℕ) (v : Sound) → ticks_of 1 tick s own u (ticks_of n tick s own t v) ≡ ticks_of (suc n) tick s own t v
  unfolding ticks_of again
  ticks-next tick n v =
      let x = ticks_of n tick s own t v in
      ap (λ (z : Target). sound_after s x.sides (tick z x.oscillator)) (same x.oscillator)

  sound-next : (k : WaveformType) (n : ℕ) (p : PcmRegisters) (w ram : List ℕ) (ch : ℕ) (v : Sound)
      → sound_ticks 1 k s p w ram ch own u (sound_ticks n k s p w ram ch own t v) ≡ sound_ticks (suc n) k s p w ram ch own t v
  sound-next waveforms.Wavetable n p w ram ch v = ticks-next _ n v
  sound-next waveforms.Pcm n p w ram ch v = twice (eqb (length ram) 0) v _ _ (ticks_of 1 (pcm_tick s p ram) s own u) (ticks-next (pcm_tick s p ram) n v)
  sound-next waveforms.Noise n p w ram ch v = ticks-next (noise_of s) n v
  sound-next waveforms.DmaPcm n p w ram ch v = ticks-next dma_of n v
  sound-next waveforms.Sqv4 n p w ram ch v = refl
  sound-next waveforms.FifoDac n p w ram ch v = refl

-- only an active voice of that waveform is a stream
abbrev pub numbered : Kind → ℕ
numbered kinds.Silent = 0
numbered kinds.Oscillator = 1
numbered kinds.Sqv4 = 2
numbered kinds.FifoDac = 3

pub streams : (b : Bool) (k : Kind) → cond b k kinds.Silent ≡ kinds.Sqv4 → k ≡ kinds.Sqv4
streams true k e = e
streams false k e = absurd (let z : ◌≡◌ {A = ℕ} 0 2 = ap numbered e in omega arith)

module _ (version : SguVersion) (ram : List ℕ) (queues : List ℤ) (ch : ℕ) (s : Voiced) (here : ch < length s.core.channels) where
  abbrev c : Channel
  c = channel_at s.core ch

  abbrev tick : Voiced → Voiced
  tick = voice_tick version ram queues ch

  abbrev ticks : ℕ → Kind → Voiced → Channel → Voiced
  ticks = ticks_as version ram queues ch

  back : (d : Channel) → channel_at (set_channel s.core ch d) ch ≡ d
  back d = get_or-set_same s.core.channels ch d no_channel here

  -- a tick of a voice that stands there as d
  tick-at : (z : Voiced) (d : Channel) → channel_at z.core ch ≡ d → (k : Kind) → kind_of d ≡ k → tick z ≡ ticks 1 k z d
  unfolding voice_tick
  tick-at z d e k f = ap (λ (x : Channel). ticks 1 (kind_of x) z x) e ∙ ap (λ (x : Kind). ticks 1 x z d) f

  -- ---- an oscillator
  abbrev seen_at : Core → ℕ → Target
  seen_at core a = target_from (channel_at core a).oscillator version (channel_at core a).pcm.sample_control

  seen_same : (d : Channel) (a : ℕ) → d.pcm ≡ c.pcm → (b : Bool) → eqb a ch ≡ b → (o : Oscillator) → target_for b (seen_at (set_channel s.core ch d) a) o ≡ target_for b (seen_at s.core a) o
  seen_same d a e true f o =
      let h = eqb-true a ch f in
      ap (λ (p : PcmRegisters). record { last_sample = o.last_sample; phase = o.phase; cycle = wave_cycle (wavetable_mask_of version p.sample_control) })
      (ap (λ (i : ℕ). (channel_at (set_channel s.core ch d) i).pcm) h ∙ ap (λ (x : Channel). x.pcm) (back d) ∙ e ∙ ap (λ (i : ℕ). (channel_at s.core i).pcm) (sym h))
  seen_same d a e false f o =
      ap (λ (x : Channel). target_from x.oscillator version x.pcm.sample_control) (get_or-set_other s.core.channels ch a d no_channel (eqb-false a ch f))

  abbrev sound : ℕ → Sound
  sound n = sound_from version ram queues ch n s.core s.sides c

  sound-step : (n : ℕ) → kind_of c ≡ kinds.Oscillator → tick (ticks n kinds.Oscillator s c) ≡ ticks (suc n) kinds.Oscillator s c
  sound-step n e =
      let d = after_sound c (sound n) in
      let a = target_channel c.registers ch in
      let z = ticks n kinds.Oscillator s c in
      tick-at z d (back d) kinds.Oscillator e
      ∙ ap (sound_stored version ram queues ch z d)
      (sound-next _ (eqb a ch) (seen_at s.core a) (seen_at z.core a) (seen_same d a refl (eqb a ch) refl) c.registers.waveform_type n c.pcm s.core.wavetables ram ch (record { oscillator = c.oscillator; sides = s.sides }))
      ∙ ap (λ (l : List Channel). voiced (record { channels = l; fragments = s.core.fragments; wavetables = s.core.wavetables }) (sound (suc n)).sides) (set-set s.core.channels ch d (after_sound c (sound (suc n))))

  -- ---- a queue
  queue-step : (n : ℕ) → kind_of c ≡ kinds.FifoDac → tick (ticks n kinds.FifoDac s c) ≡ ticks (suc n) kinds.FifoDac s c
  unfolding queue_ticks again
  queue-step n e =
      let v = queue_from version ram queues ch n s.core s.sides c in
      let w = queue_from version ram queues ch (suc n) s.core s.sides c in
      let d = after_queue c v in
      let z = ticks n kinds.FifoDac s c in
      tick-at z d (back d) kinds.FifoDac e
      ∙ ap (λ (l : List Channel). voiced (record { channels = l; fragments = s.core.fragments; wavetables = s.core.wavetables }) w.sides) (set-set s.core.channels ch d (after_queue c w))

  -- ---- a stream
  module _ (room : ch * 128 + 128 ≤ length s.core.fragments) where
    abbrev start : Sides → Lent
    start sides = lent (record { voice = record { cache = c.stream; phase = c.oscillator.phase; active = true; q8 = pos 0 }; sides = sides }) s.core.fragments

    abbrev stream : ℕ → Lent
    stream n = stream_from version ram queues ch n s.core s.sides c

    stream-step : (n : ℕ) → kind_of c ≡ kinds.Sqv4 → tick (ticks n kinds.Sqv4 s c) ≡ ticks (suc n) kinds.Sqv4 s c
    stream-step n e = go (stream n).sound.voice.active refl
      where
        d : Channel
        d = after_stream c (stream n).sound

        z : Voiced
        z = ticks n kinds.Sqv4 s c

        moves : {b : Bool} → (stream n).sound.voice.active ≡ b → kind_of d ≡ cond b (sounding_of c.registers.waveform_type) kinds.Silent
        moves f = ap (λ (b : Bool). cond b (sounding_of c.registers.waveform_type) kinds.Silent) f

        go : (b : Bool) → (stream n).sound.voice.active ≡ b → tick z ≡ ticks (suc n) kinds.Sqv4 s c
        go true f =
            let w = stream (suc n) in
            tick-at z d (back d) kinds.Sqv4 (moves f ∙ streams c.pcm.active (sounding_of c.registers.waveform_type) e)
            ∙ ap (stream_stored version ram queues ch z d) (goes-on ram (play_of c version) c.registers.volume c.registers.panpot (ch * 128) (start s.sides) room n f)
            ∙ ap (λ (l : List Channel). voiced (record { channels = l; fragments = w.samples; wavetables = s.core.wavetables }) w.sound.sides) (set-set s.core.channels ch d (after_stream c w.sound))
        go false f =
            tick-at z d (back d) kinds.Silent (moves f)
            ∙ ap (stream_stored version ram queues ch s c) (sym (over ram (play_of c version) c.registers.volume c.registers.panpot (ch * 128) (start s.sides) room n f))

    -- all the ticks of the voice, stored at once
    pub stores : (n : ℕ) → voice_ticks version ram queues ch (suc n) s ≡ ticks (suc n) (kind_of c) s c
    unfolding voice_ticks again
    stores n = by (kind_of c) refl n
      where
        from : (k : Kind) → kind_of c ≡ k → ((n : ℕ) → tick (ticks n k s c) ≡ ticks (suc n) k s c) → (n : ℕ) → again (suc n) tick s ≡ ticks (suc n) k s c
        from k e step zero = tick-at s c refl k e
        from k e step (suc n) = ap tick (from k e step n) ∙ step (suc n)

        by : (k : Kind) → kind_of c ≡ k → (n : ℕ) → again (suc n) tick s ≡ ticks (suc n) k s c
        by kinds.Silent e n = again-still tick s (tick-at s c refl kinds.Silent e) (suc n)
        by kinds.Oscillator e n = from kinds.Oscillator e (λ m. sound-step m e) n
        by kinds.Sqv4 e n = from kinds.Sqv4 e (λ m. stream-step m e) n
        by kinds.FifoDac e n = from kinds.FifoDac e (λ m. queue-step m e) n
