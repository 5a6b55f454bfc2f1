-- A voice is turned off in some frames exactly where it was active before them and is not after them. Assumes nothing.
use mathlib.Core.Path.{◌≡◌, refl, sym, ap, ap₂, ◌∙◌}
use mathlib.Core.Bool.{Bool, false, cond}
use mathlib.Core.List.{List}
use Prim.Native.Nat.{ℕ, zero, suc, ◌+◌, ◌-◌, ◌%◌, ◌<◌, ◌≤◌}
use native.Mathlib.Omega.{arith}
use lib.Seq.{get_or-set_other}
use lib.IntN.{ℤ}
use Rattle.sizes.specs.Sizes.{num_channels}
use Rattle.endings.specs.Sets.{off, either, set_of}
use Rattle.endings.proofs.Sets.{off-twice, off-none, set_same}
use Rattle.version.specs.declared.SguVersion.{SguVersion}
use Rattle.ticks.specs.Again.{again}
use Rattle.ticks.specs.Mix.{silence}
use Rattle.voice.specs.Kinds.{sounding_of}
use Rattle.voice.specs.Sounding.{kind_of}
use Rattle.voice.specs.declared.Channel.{Channel}
use Rattle.voice.specs.declared.Kind.{Kind}
use Rattle.voice.specs.declared.Kind.TheVariants as kinds
use Rattle.voices.specs.Core.{no_channel, channel_at}
use Rattle.voices.specs.declared.Core.{Core}
use Rattle.frames.specs.Ticking.{Voiced, voiced, ticks_as, voice_tick, voice_ticks}
use Rattle.frames.specs.Turning.{turned, frame, frames}
use Rattle.frame_reports.specs.Ending.{turned_off, tick_ends, ticks_end, frame_ends, frames_end, frames_ended}

module _ (version : SguVersion) (ram : List ℕ) (queues : List ℤ) where
  -- ---- one tick
  module _ (ch : ℕ) where
    others-as : (j : ℕ) → (j ≡ ch → ⊥) → (k : Kind) (s : Voiced) (c : Channel) → channel_at (ticks_as version ram queues ch 1 k s c).core j ≡ channel_at s.core j
    others-as j h kinds.Silent s c = refl
    others-as j h kinds.Oscillator s c = get_or-set_other s.core.channels ch j _ no_channel h
    others-as j h kinds.Sqv4 s c = get_or-set_other s.core.channels ch j _ no_channel h
    others-as j h kinds.FifoDac s c = get_or-set_other s.core.channels ch j _ no_channel h

    tick-others : (j : ℕ) → (j ≡ ch → ⊥) → (s : Voiced) → channel_at (voice_tick version ram queues ch s).core j ≡ channel_at s.core j
    unfolding voice_tick
    tick-others j h s = others-as j h (kind_of (channel_at s.core ch)) s (channel_at s.core ch)

    -- a voice that is not active is left as it is
    tick-still : (s : Voiced) → (channel_at s.core ch).pcm.active ≡ false → voice_tick version ram queues ch s ≡ s
    unfolding voice_tick
    tick-still s e = ap (λ (b : Bool). ticks_as version ram queues ch 1 (cond b (sounding_of (channel_at s.core ch).registers.waveform_type) kinds.Silent) s (channel_at s.core ch)) e

    -- ---- n ticks
    abbrev is_on : Core → Bool
    is_on core = (channel_at core ch).pcm.active

    tick-off : (s : Voiced) → is_on s.core ≡ false → is_on (voice_tick version ram queues ch s).core ≡ false
    tick-off s e = ap (λ (v : Voiced). is_on v.core) (tick-still s e) ∙ e

    ticks-others : (j : ℕ) → (j ≡ ch → ⊥) → (n : ℕ) (s : Voiced) → channel_at (voice_ticks version ram queues ch n s).core j ≡ channel_at s.core j
    unfolding voice_ticks again
    ticks-others j h zero s = refl
    ticks-others j h (suc n) s = tick-others j h (voice_ticks version ram queues ch n s) ∙ ticks-others j h n s

    ticks-off : (n : ℕ) (s : Voiced) → is_on s.core ≡ false → is_on (voice_ticks version ram queues ch n s).core ≡ false
    unfolding voice_ticks again
    ticks-off zero s e = e
    ticks-off (suc n) s e = tick-off (voice_ticks version ram queues ch n s) (ticks-off n s e)

    ticks-end : (n : ℕ) (s : Voiced) → ticks_end version ram queues ch n s ≡ off (is_on s.core) (is_on (voice_ticks version ram queues ch n s).core)
    unfolding ticks_end tick_ends voice_ticks again
    ticks-end zero s = sym (off-none (is_on s.core))
    ticks-end (suc n) s =
        ap (λ (b : Bool). either b (off (is_on (voice_ticks version ram queues ch n s).core) (is_on (voice_tick version ram queues ch (voice_ticks version ram queues ch n s)).core))) (ticks-end n s)
        ∙ off-twice (is_on s.core) (is_on (voice_ticks version ram queues ch n s).core) (is_on (voice_tick version ram queues ch (voice_ticks version ram queues ch n s)).core) (ticks-off n s) (tick-off (voice_ticks version ram queues ch n s))

  -- ---- the other voices' turns of a frame, from turn i on, i not passing ch
  abbrev after : ℕ → Core → Core
  after k core = (turned version ram queues 0 4 k core).core

  before-turn : (ch k : ℕ) → k ≤ ch → ch < 8 → (core : Core) → channel_at (after k core) ch ≡ channel_at core ch
  unfolding turned
  before-turn ch zero h g core = refl
  before-turn ch (suc k) h g core =
      ticks-others ((0 + k) % 8) ch (λ e. absurd (omega arith)) 4 (voiced (after k core) silence) ∙ before-turn ch k (omega arith) g core

  -- and those behind its own
  behind-turn : (ch k : ℕ) → suc ch + k ≤ 8 → (core : Core) → channel_at (after (suc ch + k) core) ch ≡ channel_at (after (suc ch) core) ch
  unfolding turned
  behind-turn ch zero h core = ap (λ (i : ℕ). channel_at (after i core) ch) (same ch)
    where
      same : (i : ℕ) → suc i + 0 ≡ suc i
      same i = omega arith
  behind-turn ch (suc k) h core =
      ap (λ (i : ℕ). channel_at (after i core) ch) (more ch k)
      ∙ ticks-others ((0 + (suc ch + k)) % 8) ch (λ e. absurd (omega arith)) 4 (voiced (after (suc ch + k) core) silence) ∙ behind-turn ch k (omega arith) core
    where
      more : (i j : ℕ) → suc i + suc j ≡ suc (suc i + j)
      more i j = omega arith

  own_turn : (ch : ℕ) → ch < 8 → (core : Core) → channel_at (after (suc ch) core) ch ≡ channel_at (voice_ticks version ram queues ch 4 (voiced (after ch core) silence)).core ch
  unfolding turned
  own_turn ch h core = ap (λ (i : ℕ). channel_at (voice_ticks version ram queues i 4 (voiced (after ch core) silence)).core ch) (place ch h)
    where
      place : (i : ℕ) → i < 8 → (0 + i) % 8 ≡ i
      place i g = omega arith

  frame-after : (ch : ℕ) → ch < 8 → (core : Core) → channel_at (frame version ram queues core).core ch ≡ channel_at (voice_ticks version ram queues ch 4 (voiced (after ch core) silence)).core ch
  frame-after ch h core = ap (λ (i : ℕ). channel_at (after i core) ch) (eight ch h) ∙ behind-turn ch (7 - ch) (omega arith) core ∙ own_turn ch h core
    where
      eight : (i : ℕ) → i < 8 → 8 ≡ suc i + (7 - i)
      eight i g = omega arith

  -- ---- frames
  module _ (ch : ℕ) (h : ch < 8) where
    frame-end : (core : Core) → frame_ends version ram queues ch core ≡ turned_off (channel_at core ch) (channel_at (frame version ram queues core).core ch)
    unfolding frame_ends
    frame-end core =
        ticks-end ch 4 (voiced (after ch core) silence)
        ∙ ap₂ (λ (c d : Channel). turned_off c d) (before-turn ch ch (omega arith) h core) (sym (frame-after ch h core))

    frame_off : (core : Core) → is_on ch core ≡ false → is_on ch (frame version ram queues core).core ≡ false
    frame_off core e =
        ap (λ (c : Channel). c.pcm.active) (frame-after ch h core)
        ∙ ticks-off ch 4 (voiced (after ch core) silence) (ap (λ (c : Channel). c.pcm.active) (before-turn ch ch (omega arith) h core) ∙ e)

    frames-off : (n : ℕ) (core : Core) → is_on ch core ≡ false → is_on ch (frames version ram queues n core).core ≡ false
    unfolding frames
    frames-off zero core e = e
    frames-off (suc n) core e = frame_off (frames version ram queues n core).core (frames-off n core e)

    -- a voice is turned off in n frames where it was active before them and is not after them
    pub ends-active : (n : ℕ) (core : Core) → frames_end version ram queues ch n core ≡ turned_off (channel_at core ch) (channel_at (frames version ram queues n core).core ch)
    unfolding frames_end frames
    ends-active zero core = sym (off-none (is_on ch core))
    ends-active (suc n) core =
        let b = (frames version ram queues n core).core in
        ap₂ either (ends-active n core) (frame-end b)
        ∙ off-twice (is_on ch core) (is_on ch b) (is_on ch (frame version ram queues b).core) (frames-off n core) (frame_off b)

  -- the set is the voices that were active and are so no more
  pub ended-active : (n : ℕ) (core : Core) → frames_ended version ram queues n core ≡ set_of num_channels (λ ch. turned_off (channel_at core ch) (channel_at (frames version ram queues n core).core ch))
  ended-active n core = set_same 8 (λ ch. frames_end version ram queues ch n core) (λ ch. turned_off (channel_at core ch) (channel_at (frames version ram queues n core).core ch)) (λ ch h. ends-active ch h n core)
