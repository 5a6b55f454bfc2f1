-- One tick of a channel, by what moves in it. Assumes nothing.
use Rattle.std.proofs.Common.{◌≡◌, ℕ, ◌*◌, ◌%◌, List, ℤ, sym, ap, ◌∙◌}
use Rattle.sizes.specs.Sizes.{num_channels}
use Rattle.version.specs.declared.SguVersion.{SguVersion}
use Rattle.ticks.specs.Mix.{silence}
use Rattle.ticks.specs.declared.QueueSound.{QueueSound}
use Rattle.ticks.specs.declared.Sides.{Sides}
use Rattle.ticks.specs.declared.Sound.{Sound}
use Rattle.ticks.specs.declared.Target.{Target}
use Rattle.voice.specs.Sounding.{kind_of, after_sound, after_queue, after_stream}
use Rattle.voice.specs.Streaming.{lent}
use Rattle.voice.specs.Ticking.{TickBeside, beside, by_sound, by_queue, by_stream, channel_sound, channel_queue, channel_stream, channel_tick_as, channel_tick}
use Rattle.voice.specs.declared.Channel.{Channel}
use Rattle.voice.specs.declared.Kind.{Kind}
use Rattle.voice.specs.declared.Kind.TheVariants as kinds
use Rattle.voice.specs.declared.StreamSound.{StreamSound}

abbrev given : Channel → Sides → List ℤ → TickBeside
given d sides fragments = beside (record { channel = d; sides = sides }) fragments

module _ (version : SguVersion) (wavetables : List ℕ) (fragments : List ℤ) (ram : List ℕ) (queue : List ℤ) (ch : ℕ) (t : Target) (c : Channel) where
  abbrev after : TickBeside
  after = channel_tick version wavetables fragments ram queue ch t c

  by_kind : (k : Kind) → kind_of c ≡ k → channel_tick_as version wavetables fragments ram queue ch t c k ≡ after
  unfolding channel_tick
  by_kind k e = ap (channel_tick_as version wavetables fragments ram queue ch t c) (sym e)

  pub silent-tick : kind_of c ≡ kinds.Silent → (sides : Sides) → sides ≡ silence → given c sides fragments ≡ after
  silent-tick k sides e = ap (λ (s : Sides). given c s fragments) e ∙ by_kind kinds.Silent k

  pub sound-tick : kind_of c ≡ kinds.Oscillator → (v : Sound) (d : Channel) → v ≡ channel_sound version wavetables ram ch t 1 silence c → d ≡ after_sound c v → given d v.sides fragments ≡ after
  sound-tick k v d e f = ap (λ (x : Channel). given x v.sides fragments) f ∙ ap (λ (x : Sound). beside (by_sound c x) fragments) e ∙ by_kind kinds.Oscillator k

  pub queue-tick : kind_of c ≡ kinds.FifoDac → (v : QueueSound) (d : Channel) → v ≡ channel_queue queue 1 silence c → d ≡ after_queue c v → given d v.sides fragments ≡ after
  queue-tick k v d e f = ap (λ (x : Channel). given x v.sides fragments) f ∙ ap (λ (x : QueueSound). beside (by_queue c x) fragments) e ∙ by_kind kinds.FifoDac k

  pub stream-tick : kind_of c ≡ kinds.Sqv4 → (v : StreamSound) (d : Channel) (samples : List ℤ) (base : ℕ) → base ≡ ch % num_channels * 128
      → lent v samples ≡ channel_stream version fragments base ram 1 silence c → d ≡ after_stream c v → given d v.sides samples ≡ after
  stream-tick k v d samples base b e f =
      ap (λ (x : Channel). given x v.sides samples) f ∙ ap (by_stream c) (e ∙ ap (λ (n : ℕ). channel_stream version fragments n ram 1 silence c) b) ∙ by_kind kinds.Sqv4 k
