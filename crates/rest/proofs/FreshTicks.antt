-- A tick of a fresh voice whose table begins at the centre gives silence and leaves the voice as it is. Assumes nothing.
use mathlib.Core.Path.{◌≡◌, refl, sym, ap, ◌∙◌}
use mathlib.Core.Bool.{Bool, true, false, cond}
use mathlib.Core.List.{List}
use Prim.Native.Nat.{ℕ, zero, suc, ◌+◌, ◌*◌, ◌%◌}
use native.Mathlib.Omega.{arith}
use lib.Bits.{bit_and, and_zero_l}
use lib.Dec.{eqb}
use lib.IntN.{ℤ, pos}
use lib.ListN.{get_or, set}
use lib.Seq.{set-get_or}
use Rattle.tone.specs.Mix.{volume_of, master_gain, pan, wrapping_add}
use Rattle.tone.specs.Shape.{slew, slewed, centred}
use Rattle.tone.specs.Taps.{raised, blend, wave_after}
use Rattle.version.specs.Versions.{interpolates, wavetable_mask_of}
use Rattle.version.specs.declared.SguVersion.{SguVersion}
use Rattle.registers.specs.Control.{default_registers, target_channel}
use Rattle.ticks.specs.Again.{again}
use Rattle.ticks.specs.Finish.{finished}
use Rattle.ticks.specs.Mix.{silence, heard, sound_after}
use Rattle.ticks.specs.Oscillators.{default_oscillator}
use Rattle.ticks.specs.Settings.{setting_of}
use Rattle.ticks.specs.Sounds.{target_for, ticks_of}
use Rattle.ticks.specs.Wavetable.{wavetable_at, wavetable_tick}
use Rattle.ticks.specs.declared.Setting.{Setting}
use Rattle.ticks.specs.declared.Sound.{Sound}
use Rattle.ticks.specs.declared.Target.{Target}
use Rattle.ticks.specs.declared.Ticked.{Ticked}
use Rattle.voice.specs.Channel.{default_channel}
use Rattle.voice.specs.Sounding.{kind_of, after_sound}
use Rattle.voice.specs.declared.Channel.{Channel}
use Rattle.voices.specs.Core.{no_channel, channel_at, set_channels, set_channel}
use Rattle.voices.specs.declared.Core.{Core}
use Rattle.frames.specs.Ticking.{Voiced, voiced, ticks_as, modulator, voice_tick, voice_ticks}

-- ---- the value: the first byte alone counts at phase 0
first-tap : (b : Bool) (w : List ℕ) (base at next : ℕ) → at ≡ base → get_or w base 0 ≡ 128 → cond b (blend (get_or w at 0) next 0) (raised (get_or w at 0)) ≡ 32768
first-tap true w base at next e h = blended (get_or w at 0) (ap (λ (i : ℕ). get_or w i 0) e ∙ h)
  where
    blended : (x : ℕ) → x ≡ 128 → blend x next 0 ≡ 32768
    blended x g = omega (arith, g)
first-tap false w base at next e h = ap raised (ap (λ (i : ℕ). get_or w i 0) e ∙ h)

centre : (b : Bool) → centred 32768 b ≡ pos 0
unfolding centred
centre true = refl
centre false = refl

module _ (version : SguVersion) where
  abbrev plain : Setting
  plain = setting_of default_registers 0 version

  abbrev quiet : Ticked
  quiet = record { oscillator = default_oscillator; q8 = pos 0 }

  abbrev still : Sound
  still = record { oscillator = default_oscillator; sides = silence }

  wave-rests : (w : List ℕ) (base : ℕ) (t : Target) → get_or w base 0 ≡ 128 → wavetable_tick plain w base t default_oscillator ≡ quiet
  unfolding wavetable_at finished slew slewed
  wave-rests w base t h =
      let mask = wavetable_mask_of version 0 in
      let at = base + bit_and 0 mask in
      let first : at ≡ base = omega (arith, and_zero_l mask) in
      ap (λ (x : ℕ). record { oscillator = default_oscillator; q8 = centred x (interpolates version 0) }) (first-tap (interpolates version 0) w base at (get_or w (base + wave_after (bit_and 0 mask) mask) 0) first h)
      ∙ ap (λ (x : ℤ). record { oscillator = default_oscillator; q8 = x }) (centre (interpolates version 0))

  sound-rests : (w : List ℕ) (base : ℕ) (own : Bool) (t : Target) → get_or w base 0 ≡ 128 → ticks_of 1 (wavetable_tick plain w base) plain own t still ≡ still
  unfolding ticks_of again sound_after heard volume_of master_gain pan wrapping_add
  sound-rests w base own t h = ap (λ (r : Ticked). sound_after plain silence r) (wave-rests w base (target_for own t default_oscillator) h)

  -- ---- where the voice stands among the eight
  module _ (ram : List ℕ) (queues : List ℤ) (core : Core) (ch : ℕ) (fresh : channel_at core ch ≡ default_channel) (centred : get_or core.wavetables (ch % 8 * 256) 0 ≡ 128) where
    abbrev s : Voiced
    s = voiced core silence

    stored : set_channel core ch default_channel ≡ core
    stored = ap (λ (l : List Channel). set_channels core l) (ap (λ (c : Channel). set core.channels ch c) (sym fresh) ∙ set-get_or core.channels ch no_channel)

    tick-rests : voice_tick version ram queues ch s ≡ s
    unfolding voice_tick
    tick-rests =
        ap (λ (c : Channel). ticks_as version ram queues ch 1 (kind_of c) s c) fresh
        ∙ ap (λ (v : Sound). voiced (set_channel core ch (after_sound default_channel v)) v.sides) (sound-rests core.wavetables (ch % 8 * 256) (eqb (target_channel default_registers ch) ch) (modulator version ram queues ch 1 core silence default_channel) centred)
        ∙ ap (λ (k : Core). voiced k silence) stored

    pub ticks-rest : (n : ℕ) → voice_ticks version ram queues ch n s ≡ s
    unfolding voice_ticks again
    ticks-rest zero = refl
    ticks-rest (suc n) = ap (voice_tick version ram queues ch) (ticks-rest n) ∙ tick-rests
