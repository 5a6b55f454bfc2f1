-- One tick of a voice among the eight is its channel's tick, stored. Assumes nothing.
use Rattle.std.proofs.Common.{◌≡◌, ℕ, ◌+◌, ◌*◌, ◌%◌, Bool, cond, List, length, ℤ, sym, refl, ap, ◌∙◌, arith, eq-eqb, ne_eqb}
use lib.Seq.{set-get_or}
use Rattle.sizes.specs.Sizes.{fifo_capacity, num_channels, queue_buffer}
use Rattle.num.specs.Lists.{part}
use Rattle.version.specs.declared.SguVersion.{SguVersion}
use Rattle.registers.specs.Control.{target_channel}
use Rattle.ticks.specs.Again.{again}
use Rattle.ticks.specs.Mix.{silence}
use Rattle.ticks.specs.Oscillators.{target_from}
use Rattle.ticks.specs.declared.Target.{Target}
use Rattle.voice.specs.Sounding.{kind_of}
use Rattle.voice.specs.Ticking.{TickBeside, beside, by_stream, channel_stream, channel_tick_as, channel_tick}
use Rattle.voice.specs.declared.Channel.{Channel}
use Rattle.voice.specs.declared.ChannelTick.{ChannelTick}
use Rattle.voice.specs.declared.Kind.{Kind}
use Rattle.voice.specs.declared.Kind.TheVariants as kinds
use Rattle.voices.specs.Core.{no_channel, channel_at, set_channels, set_channel, set_fragments}
use Rattle.voices.specs.declared.Core.{Core}
use Rattle.frames.specs.Ticking.{Voiced, voiced, modulator, ticks_as, voice_tick, voice_ticks}
use Rattle.frames.specs.Turning.{no_turn, turned, single_tick, after_turns}
use Rattle.frames.specs.declared.Turned.{Turned}

module _ (version : SguVersion) (ram : List ℕ) (queues : List ℤ) (core : Core) (ch at : ℕ) (place : at ≡ (ch + 0) % num_channels) where
  abbrev c : Channel
  c = channel_at core at

  abbrev t : Target
  t = modulator version ram queues at 1 core silence c

  -- a tick of the channel, stored where it stands
  abbrev stored : TickBeside → Voiced
  stored b = voiced (set_fragments (set_channel core at b.tick.channel) b.fragments) b.tick.sides

  abbrev entries : List ℤ
  entries = part queues (at * fifo_capacity) fifo_capacity

  by_kind : (k : Kind) → stored (channel_tick_as version core.wavetables core.fragments ram entries at t c k) ≡ ticks_as version ram queues at 1 k (voiced core silence) c
  by_kind kinds.Silent = ap (λ (l : List Channel). voiced (set_channels core l) silence) (set-get_or core.channels at no_channel)
  by_kind kinds.Oscillator = refl
  by_kind kinds.FifoDac = refl
  by_kind kinds.Sqv4 =
      let e : at % num_channels ≡ at = omega arith in
      ap (λ (n : ℕ). stored (by_stream c (channel_stream version core.fragments (n * 128) ram 1 silence c))) e

  tick-stored : stored (channel_tick version core.wavetables core.fragments ram entries at t c) ≡ voice_tick version ram queues at (voiced core silence)
  unfolding channel_tick voice_tick
  tick-stored = by_kind (kind_of c)

  abbrev left : Voiced → Turned
  left v = record { core = v.core; sample = v.sides.sample }

  turned-once : left (voice_tick version ram queues at (voiced core silence)) ≡ after_turns (turned version ram queues ch 1 1 core)
  unfolding turned voice_ticks again
  turned-once = ap (λ (n : ℕ). left (voice_tick version ram queues n (voiced core silence))) place

  pub single : (a : ℕ) (u : Target) (q samples : List ℤ) (d : ChannelTick) → length queues ≡ queue_buffer → q ≡ entries → a ≡ target_channel c.registers at
      → u ≡ target_from (channel_at core a).oscillator version (channel_at core a).pcm.sample_control
      → beside d samples ≡ channel_tick version core.wavetables core.fragments ram q at u c
      → ◌≡◌ {A = Turned} (record { core = set_fragments (set_channel core at d.channel) samples; sample = d.sides.sample }) (after_turns (single_tick version ram queues ch core))
  unfolding single_tick
  single a u q samples d full eq ea eu e =
      ap (λ (b : TickBeside). left (stored b)) (e ∙ ap (λ (l : List ℤ). channel_tick version core.wavetables core.fragments ram l at u c) eq ∙ ap (λ (x : Target). channel_tick version core.wavetables core.fragments ram entries at x c) (eu ∙ ap (λ (i : ℕ). target_from (channel_at core i).oscillator version (channel_at core i).pcm.sample_control) ea))
      ∙ ap left tick-stored
      ∙ turned-once
      ∙ ap (λ (b : Bool). after_turns (cond b (turned version ram queues ch 1 1 core) (no_turn core))) (sym (eq-eqb (length queues) queue_buffer full))

module _ (version : SguVersion) (ram : List ℕ) (queues : List ℤ) (core : Core) (ch : ℕ) where
  pub no-single : (length queues ≡ queue_buffer → ⊥) → after_turns (no_turn core) ≡ after_turns (single_tick version ram queues ch core)
  unfolding single_tick
  no-single q = ap (λ (b : Bool). after_turns (cond b (turned version ram queues ch 1 1 core) (no_turn core))) (sym (ne_eqb (length queues) queue_buffer q))
