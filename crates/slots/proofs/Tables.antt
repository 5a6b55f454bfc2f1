-- A voice's ticks over its own wavetable are its ticks over all the tables, from its base on; and a voice that modulates itself sees
-- itself as it stands. Assumes nothing.
use mathlib.Core.Path.{◌≡◌, refl, sym, ap, ◌∙◌}
use mathlib.Core.Bool.{Bool, true, false, cond}
use mathlib.Core.List.{List}
use Prim.Native.Nat.{ℕ, ◌+◌, ◌*◌, ◌%◌, ◌^◌, ◌≤◌, ◌<◌}
use native.Mathlib.Nat.{add-zero, zero-add, div-le_self}
use native.Mathlib.Omega.{arith}
use lib.Bits.{and_le_r}
use lib.Dec.{eqb}
use lib.ListN.{length, get_or, drop}
use lib.Seq.{get_or-take, get_or-drop}
use Rattle.num.specs.Lists.{part}
use Rattle.tone.specs.Phase.{fraction, stepped}
use Rattle.tone.specs.Taps.{wave_after, raised, blend}
use Rattle.version.specs.Versions.{wavetable_mask_of}
use Rattle.version.specs.declared.SguVersion.{SguVersion}
use Rattle.version.specs.declared.SguVersion.TheVariants.{V1, V2, V2_1, V3, V3_1}
use Rattle.registers.specs.declared.PcmRegisters.{PcmRegisters}
use Rattle.registers.specs.declared.WaveformType.{WaveformType}
use Rattle.registers.specs.declared.WaveformType.TheVariants.{Wavetable, Pcm, Noise, DmaPcm, Sqv4, FifoDac}
use Rattle.ticks.specs.Again.{again}
use Rattle.ticks.specs.Oscillators.{set_phase}
use Rattle.ticks.specs.Finish.{finished, position_of}
use Rattle.ticks.specs.Wavetable.{wave_place, synced, shaped, wavetable_at, wavetable_tick}
use Rattle.ticks.specs.Pcm.{pcm_tick}
use Rattle.ticks.specs.Sounds.{target_for, Tick, sound_tick, ticks_of, noise_of, dma_of, sound_ticks, sound_value}
use Rattle.ticks.specs.declared.Oscillator.{Oscillator}
use Rattle.ticks.specs.declared.Setting.{Setting}
use Rattle.ticks.specs.declared.Target.{Target}
use Rattle.ticks.specs.declared.Sound.{Sound}
use Rattle.ticks.specs.declared.Ticked.{Ticked}

pub mask-small : (version : SguVersion) (control : ℕ) → wavetable_mask_of version control ≤ 255
mask-small V1 control = omega arith
mask-small V2 control = omega arith
mask-small V2_1 control = omega arith
mask-small V3 control = omega arith
mask-small V3_1 control = omega (arith, div-le_self 256 (2 ^ (control % 4)))

module _ (w : List ℕ) (base : ℕ) where
  own-byte : (i : ℕ) → i < 256 → get_or w (base + i) 0 ≡ get_or (part w base 256) (0 + i) 0
  own-byte i h = sym (ap (λ (n : ℕ). get_or (part w base 256) n 0) (zero-add i) ∙ get_or-take 256 (drop base w) i 0 h ∙ get_or-drop base w i 0)

  module _ (s : Setting) (small : s.mask ≤ 255) where
    own-tick : (t : Target) (o : Oscillator) → wavetable_tick s w base t o ≡ wavetable_tick s (part w base 256) 0 t o
    unfolding wavetable_at
    own-tick t o =
        let phase : ℕ = stepped o.phase s.step in
        let here : ℕ = wave_place s t phase in
        let next : ℕ = wave_after here s.mask in
        let a = own-byte here (omega (arith, and_le_r (position_of s t phase) s.mask)) in
        let b = own-byte next (omega (arith, and_le_r (here + 1) s.mask)) in
        let first : get_or w base 0 ≡ get_or (part w base 256) 0 0 = ap (λ (n : ℕ). get_or w n 0) (sym (add-zero base)) ∙ own-byte 0 (omega arith) in
        λ i. finished s (set_phase o (cond (synced s t) 0 phase)) (shaped s t (first i) (cond s.interpolate (blend (a i) (b i) (fraction phase)) (raised (a i)))) s.interpolate

module _ (s : Setting) (small : s.mask ≤ 255) (p : PcmRegisters) (w ram : List ℕ) (ch : ℕ) where
  -- the voice's own bytes, from 0 on
  pub own-table : (k : WaveformType) (n : ℕ) (own : Bool) (t : Target) (v : Sound) → sound_ticks n k s p w ram ch own t v ≡ sound_ticks n k s p (part w (ch % 8 * 256) 256) ram 0 own t v
  own-table Wavetable n own t v = λ i. ticks_of n (λ (u : Target) (o : Oscillator). own-tick w (ch % 8 * 256) s small u o i) s own t v
  own-table Pcm n own t v = refl
  own-table Noise n own t v = refl
  own-table DmaPcm n own t v = refl
  own-table Sqv4 n own t v = refl
  own-table FifoDac n own t v = refl

  pub own_value : (k : WaveformType) (t : Target) (o : Oscillator) → sound_value k s p w ram ch t o ≡ sound_value k s p (part w (ch % 8 * 256) 256) ram 0 t o
  own_value Wavetable t o = ap (λ (r : Ticked). r.q8) (own-tick w (ch % 8 * 256) s small t o)
  own_value Pcm t o = refl
  own_value Noise t o = refl
  own_value DmaPcm t o = refl
  own_value Sqv4 t o = refl
  own_value FifoDac t o = refl

-- ---- a voice that modulates itself
itself : (tick : Tick) (s : Setting) (own : Bool) (t : Target) (v : Sound) → (own ≡ true → target_for true t v.oscillator ≡ t) → ticks_of 1 tick s own t v ≡ ticks_of 1 tick s false t v
unfolding ticks_of again
itself tick s true t v e = ap (λ (u : Target). sound_tick tick s false u v) (e refl)
itself tick s false t v e = refl

pub own-target : (k : WaveformType) (s : Setting) (p : PcmRegisters) (w ram : List ℕ) (ch : ℕ) (own : Bool) (t : Target) (v : Sound) → (own ≡ true → target_for true t v.oscillator ≡ t)
    → sound_ticks 1 k s p w ram ch own t v ≡ sound_ticks 1 k s p w ram ch false t v
own-target Wavetable s p w ram ch own t v e = itself (wavetable_tick s w (ch % 8 * 256)) s own t v e
own-target Pcm s p w ram ch own t v e = ap (λ (x : Sound). cond (eqb (length ram) 0) v x) (itself (pcm_tick s p ram) s own t v e)
own-target Noise s p w ram ch own t v e = itself (noise_of s) s own t v e
own-target DmaPcm s p w ram ch own t v e = itself dma_of s own t v e
own-target Sqv4 s p w ram ch own t v e = refl
own-target FifoDac s p w ram ch own t v e = refl

pub target-itself : (own : Bool) (t : Target) (o : Oscillator) → (own ≡ true → target_for true t o ≡ t) → target_for own t o ≡ t
target-itself true t o e = e refl
target-itself false t o e = refl
