-- A tick's value is what the volume is applied to: the sides after a tick are those before it with its value on them, by its volume and
-- panpot. Assumes nothing.
use mathlib.Core.Path.{◌≡◌, refl, sym, ap, ◌∙◌}
use mathlib.Core.Bool.{Bool, true, false, cond}
use mathlib.Core.List.{List}
use Prim.Native.Nat.{ℕ, ◌+◌, ◌*◌, ◌<◌}
use native.Mathlib.Omega.{arith}
use lib.Dec.{eqb}
use lib.IntN.{ℤ, pos}
use lib.ListN.{length}
use borrow.Author.Tests.{ne_eqb, le-leb}
use Rattle.sizes.specs.Sizes.{num_channels}
use Rattle.num.specs.Lists.{part}
use Rattle.tone.specs.Mix.{volume_of}
use Rattle.version.specs.declared.SguVersion.{SguVersion}
use Rattle.registers.specs.declared.PcmRegisters.{PcmRegisters}
use Rattle.registers.specs.declared.WaveformType.{WaveformType}
use Rattle.registers.specs.declared.WaveformType.TheVariants as waveforms
use Rattle.ticks.specs.Again.{again}
use Rattle.ticks.specs.Mix.{heard, sound_after}
use Rattle.ticks.specs.Pcm.{pcm_tick}
use Rattle.ticks.specs.Settings.{setting_of}
use Rattle.ticks.specs.Queues.{queue_tick, queue_ticks}
use Rattle.ticks.specs.Sounds.{target_for, ticks_of, sound_ticks, sound_value}
use Rattle.ticks.specs.declared.Setting.{Setting}
use Rattle.ticks.specs.declared.Sides.{Sides}
use Rattle.ticks.specs.declared.Sound.{Sound}
use Rattle.ticks.specs.declared.Target.{Target}
use Rattle.voice.specs.Kinds.{sounding_of}
use Rattle.voice.specs.Sounding.{kind_of, play_of}
use Rattle.voice.specs.Streaming.{Lent, lent, placed_at, stream_tick, stream_ticks, stream_ticks_at}
use Rattle.voice.specs.declared.Channel.{Channel}
use Rattle.voice.specs.declared.StreamSound.{StreamSound}
use Rattle.voice.specs.declared.Kind.{Kind}
use Rattle.voice.specs.declared.Kind.TheVariants.{Silent, Sqv4, FifoDac}
use Rattle.voice.specs.declared.Kind.TheVariants as kinds
use Rattle.voices.specs.Core.{channel_at}
use Rattle.voices.specs.Accepted.{SizedCore}
use Rattle.voices.specs.declared.Core.{Core}
use Rattle.frames.specs.Ticking.{voiced, target, modulator, stream_from, ticks_as, voice_tick}
use Rattle.frame_reports.specs.Values.{heard_as, value_as, tick_value}

sound-heard : (k : WaveformType) → sounding_of k ≡ kinds.Oscillator → (s : Setting) (p : PcmRegisters) (w ram : List ℕ) (ch : ℕ) (own : Bool) (t : Target) (v : Sound) → 0 < length ram
    → (sound_ticks 1 k s p w ram ch own t v).sides ≡ heard v.sides (volume_of (sound_value k s p w ram ch (target_for own t v.oscillator) v.oscillator) s.volume) s.panpot
unfolding ticks_of again sound_after
sound-heard waveforms.Wavetable e s p w ram ch own t v h = refl
sound-heard waveforms.Pcm e s p w ram ch own t v h =
    let n : eqb (length ram) 0 ≡ false = ne_eqb (length ram) 0 (omega arith) in
    let x : ℤ = (pcm_tick s p ram (target_for own t v.oscillator) v.oscillator).q8 in
    ap (λ (b : Bool). (cond b v (ticks_of 1 (pcm_tick s p ram) s own t v)).sides) n ∙ sym (ap (λ (b : Bool). heard v.sides (volume_of (cond b (pos 0) x) s.volume) s.panpot) n)
sound-heard waveforms.Noise e s p w ram ch own t v h = refl
sound-heard waveforms.DmaPcm e s p w ram ch own t v h = refl
sound-heard waveforms.Sqv4 e s p w ram ch own t v h = cc
sound-heard waveforms.FifoDac e s p w ram ch own t v h = cc

sounds : (b : Bool) (k : Kind) → cond b k Silent ≡ kinds.Oscillator → k ≡ kinds.Oscillator
sounds true k e = e
sounds false k e = cc

module _ (version : SguVersion) (ram : List ℕ) (q : List ℤ) (ch : ℕ) (here : ch < num_channels) (k : Core) (sized : SizedCore k) (sides : Sides) where
  abbrev c : Channel
  c = channel_at k ch

  abbrev before : StreamSound
  before = record { voice = record { cache = c.stream; phase = c.oscillator.phase; active = true; q8 = pos 0 }; sides = sides }

  abbrev streamed : Lent
  streamed = placed_at (ch * 128) k.fragments (stream_ticks 1 ram (play_of c version) c.registers.volume c.registers.panpot (lent before (part k.fragments (ch * 128) 128)))

  pub stream-here : stream_from version ram q ch 1 k sides c ≡ streamed
  unfolding stream_ticks_at
  stream-here = ap (λ (b : Bool). cond b streamed (lent before k.fragments)) (le-leb (ch * 128 + 128) (length k.fragments) (omega (arith, sized.fragments)))

  by_kind : 0 < length ram → (m : Kind) → kind_of c ≡ m → (ticks_as version ram q ch 1 m (voiced k sides) c).sides ≡ heard_as m c sides (value_as version ram q ch m (voiced k sides) c)
  unfolding queue_ticks queue_tick stream_ticks stream_tick again
  by_kind some Silent e = refl
  by_kind some kinds.Oscillator e =
      sound-heard c.registers.waveform_type (sounds c.pcm.active (sounding_of c.registers.waveform_type) e) (setting_of c.registers c.pcm.sample_control version) c.pcm k.wavetables ram ch
      (eqb (target version ram q ch 1 k sides c) ch) (modulator version ram q ch 1 k sides c) (record { oscillator = c.oscillator; sides = sides }) some
  by_kind some Sqv4 e =
      let f = stream-here in
      ap (λ (r : Lent). r.sound.sides) f ∙ sym (ap (λ (r : Lent). heard_as Sqv4 c sides r.sound.voice.q8) f)
  by_kind some FifoDac e = refl

  pub tick-heard : 0 < length ram → (voice_tick version ram q ch (voiced k sides)).sides ≡ heard_as (kind_of c) c sides (tick_value version ram q ch (voiced k sides))
  unfolding voice_tick tick_value
  tick-heard some = by_kind some (kind_of c) refl
