-- The numbers of an accepted, fitting voice are in the ranges of their fields. Assumes nothing.
use mathlib.Core.Path.{◌≡◌, refl, sym, subst}
use mathlib.Core.Bool.{Bool, true, false}
use mathlib.Core.List.{List, ◌++◌, map}
use Prim.Native.Nat.{ℕ, zero, suc, ◌+◌, ◌-◌, ◌%◌, ◌≤◌, ◌<◌, min}
use native.Mathlib.Omega.{arith}
use lib.IntN.{ℤ, pos}
use lib.ListN.{get_or}
use mir.Syntax.{w16}
use mir.Val.{of_z}
use Rattle.sizes.specs.Sizes.{fifo_capacity}
use Rattle.cores.specs.Sizes.{chip_voices}
use Rattle.num.proofs.Choice.{never}
use Rattle.line_fields.specs.Table.{most_of}
use Rattle.line_fields.proofs.Bounds.{bits_small}
use Rattle.line_fields.proofs.Good.{Within, each_within, both}
use Rattle.line_fields.proofs.Ranges.{most-on, most-sample}
use Rattle.registers.specs.Waveforms.{waveform_number, modulation_number}
use Rattle.registers.specs.Queue.{queued}
use Rattle.registers.specs.PlainQueue.{FitEntries}
use Rattle.registers.specs.declared.WaveformType.{WaveformType}
use Rattle.registers.specs.declared.WaveformType.TheVariants.{Wavetable, Pcm, Noise, DmaPcm, Sqv4, FifoDac}
use Rattle.registers.specs.declared.ModulationType.{ModulationType}
use Rattle.registers.specs.declared.ModulationType.TheVariants.{None, Phase, Ring, HardSync, Window, SlewRate, SlewStep}
use Rattle.version.specs.Versions.{has3ws8pna}
use Rattle.version.specs.declared.SguVersion.{SguVersion}
use Rattle.voice.specs.declared.Channel.{Channel}
use Rattle.session_lines.specs.Numbers.{at, flag, entries, state_numbers, table_numbers, queued_of}
use Rattle.session_lines.proofs.Whole.{size-states}
use Rattle.session_lines.proofs.Back.{Whole}

-- a voice's numbers are in range: those of its registers and state, and of its wavetable and queue
pub record InRange (version : SguVersion) (number : ℕ) (c : Channel) (w : List ℕ) (q : List ℤ) : Type 0 where
  pub voice : number < chip_voices
  pub first : Within (has3ws8pna version) 0 (state_numbers number c ++ table_numbers w)
  pub samples : Within (has3ws8pna version) 282 (map (of_z w16) (queued_of c.fifo q))

infixr 20 ◌also◌
◌also◌ : {A B : Type 0} → A → B → A × B
x also y = (x, y)

below : (x n : ℕ) → x < suc n → x ≤ n
below x n h = omega arith

-- ---- the registers' numbers
wave-most : (fifo : Bool) (w : WaveformType) → (waveform_number w ≡ 5 → fifo ≡ true) → waveform_number w ≤ most_of fifo 2
unfolding most_of
wave-most true Wavetable h = omega arith
wave-most true Pcm h = omega arith
wave-most true Noise h = omega arith
wave-most true DmaPcm h = omega arith
wave-most true Sqv4 h = omega arith
wave-most true FifoDac h = omega arith
wave-most false Wavetable h = omega arith
wave-most false Pcm h = omega arith
wave-most false Noise h = omega arith
wave-most false DmaPcm h = omega arith
wave-most false Sqv4 h = omega arith
wave-most false FifoDac h = never (sym (h refl))

modulation-most : (m : ModulationType) → modulation_number m ≤ 6
modulation-most None = omega arith
modulation-most Phase = omega arith
modulation-most Ring = omega arith
modulation-most HardSync = omega arith
modulation-most Window = omega arith
modulation-most SlewRate = omega arith
modulation-most SlewStep = omega arith

flag-most : (b : Bool) → flag b ≤ 1
flag-most true = omega arith
flag-most false = omega arith

-- ---- the wavetable's bytes and the samples
entries_below : (f : ℕ → ℕ) (most : ℕ) → ((i : ℕ) → f i ≤ most) → (k n i : ℕ) → get_or (entries f k n) i 0 ≤ most
unfolding entries
entries_below f most h k zero i = omega arith
entries_below f most h k (suc n) zero = h k
entries_below f most h k (suc n) (suc i) = entries_below f most h (suc k) n i

bits_below : (q : List ℤ) → FitEntries q → (h n i : ℕ) → get_or (map (of_z w16) (queued q h n)) i 0 ≤ 65535
unfolding queued
bits_below q e h zero i = omega arith
bits_below q e h (suc n) zero = bits_small (get_or q (h % fifo_capacity) (pos 0)) (e.each (h % fifo_capacity))
bits_below q e h (suc n) (suc i) = bits_below q e (h + 1) n i

module _ (version : SguVersion) (number : ℕ) (c : Channel) (w : List ℕ) (q : List ℤ) (h : number < chip_voices) (r : Whole version c w q) where
  abbrev fifo : Bool
  fifo = has3ws8pna version

  states-within : Within fifo 0 (state_numbers number c)
  unfolding state_numbers most_of
  states-within =
      each_within fifo 0 (state_numbers number c)
      (below _ (chip_voices - 1) h
      also below _ 65535 r.registers.frequency
      also wave-most fifo c.registers.waveform_type r.accepted.fifo
      also below _ 255 r.registers.volume
      also below _ 255 r.registers.panpot
      also modulation-most c.registers.modulation_type
      also r.accepted.target
      also r.accepted.mode
      also below _ 65535 r.registers.param1
      also below _ 65535 r.registers.param2
      also below _ 16777215 r.addresses.start
      also below _ 16777215 r.addresses.end
      also below _ 16777215 r.addresses.again
      also below _ 255 r.pcm.control
      also r.addresses.sample_control_of
      also flag-most c.pcm.active
      also below _ 18446744073709551615 r.oscillator.phase
      also below _ 34359738367 r.slew.old
      also below _ 4294967295 r.oscillator.lfsr
      also bits_small c.oscillator.last_sample r.oscillator.last
      also r.slew.slew
      also bits_small c.fifo.held r.fifo.sample
      also r.queue.ranges.frames
      also r.queue.ranges.tick
      also below _ 255 r.fifo.byte
      also tt)

  table-within : Within fifo 25 (table_numbers w)
  unfolding table_numbers
  table-within i = omega (arith, entries_below (at w) 255 (λ j. below (at w j) 255 (r.bytes j)) 0 256 i, most-on fifo (25 + i) (omega arith))

  pub inside : InRange version number c w q
  inside = record {
    voice = h;
    first = both fifo 0 (state_numbers number c) (table_numbers w) states-within (subst (λ (n : ℕ). Within fifo (0 + n) (table_numbers w)) (sym (size-states number c)) table-within);
    samples = λ i. rw (most-sample fifo (282 + i) (omega arith)) (bits_below q r.entries c.fifo.head (min c.fifo.count fifo_capacity) i);
  }
