-- The ranges that the types give: kept by every write; what is read is a byte. Assumes nothing.
use mathlib.Core.Path.{◌≡◌, refl}
use mathlib.Core.List.{List}
use Prim.Native.Nat.{ℕ, ◌*◌, ◌-◌, ◌/◌, ◌%◌, ◌^◌, ◌≤◌, ◌<◌}
use native.Mathlib.Nat.{mod-lt}
use native.Mathlib.Omega.{arith}
use lib.Dec.{eqb, leb, ltb}
use lib.Pow.{pow_pos}
use lib.IntN.{ℤ, pos}
use mir.Syntax.{w16}
use mir.Val.{SFits}
use borrow.Author.Tests.{leb-false, eqb-false}
use Rattle.sizes.specs.Sizes.{fifo_capacity}
use Rattle.num.specs.Bits.{byte_of, with_byte}
use Rattle.num.proofs.Choice.{cond-by}
use Rattle.num.proofs.Bits.{with-field-lt}
use Rattle.num.proofs.Lists.{each_set}
use Rattle.registers.specs.Waveforms.{waveform_from, waveform_number, modulation_from, modulation_number}
use Rattle.registers.specs.Control.{set_waveform, write_registers, read_registers, FitRegisters}
use Rattle.registers.specs.Pcm.{write_pcm, read_pcm, FitPcm}
use Rattle.registers.specs.Queue.{place, pushed, pushed_entries, popped, advanced, ticked, FitFifo}
use Rattle.registers.specs.PlainQueue.{FitEntries}
use Rattle.registers.specs.declared.WaveformType.{WaveformType}
use Rattle.registers.specs.declared.WaveformType.TheVariants.{Wavetable, Pcm, Noise, DmaPcm, Sqv4, FifoDac}
use Rattle.registers.specs.declared.ModulationType.{ModulationType}
use Rattle.registers.specs.declared.ModulationType.TheVariants.{None, Phase, Ring, HardSync, Window, SlewRate, SlewStep}
use Rattle.registers.specs.declared.Registers.{Registers}
use Rattle.registers.specs.declared.PcmRegisters.{PcmRegisters}
use Rattle.registers.specs.declared.Fifo.{Fifo}

byte-lt : (k n : ℕ) → byte_of k n < 256
byte-lt k n = mod-lt (n / 2 ^ (8 * k)) (pow_pos 8)

pub waveform-lt : (w : WaveformType) → waveform_number w < 6
waveform-lt Wavetable = omega arith
waveform-lt Pcm = omega arith
waveform-lt Noise = omega arith
waveform-lt DmaPcm = omega arith
waveform-lt Sqv4 = omega arith
waveform-lt FifoDac = omega arith

pub modulation-lt : (m : ModulationType) → modulation_number m < 7
modulation-lt None = omega arith
modulation-lt Phase = omega arith
modulation-lt Ring = omega arith
modulation-lt HardSync = omega arith
modulation-lt Window = omega arith
modulation-lt SlewRate = omega arith
modulation-lt SlewStep = omega arith

-- a waveform and a modulation from their numbers
pub waveform-back : (w : WaveformType) → waveform_from (waveform_number w) ≡ w
waveform-back Wavetable = refl
waveform-back Pcm = refl
waveform-back Noise = refl
waveform-back DmaPcm = refl
waveform-back Sqv4 = refl
waveform-back FifoDac = refl

pub modulation-back : (m : ModulationType) → modulation_from (modulation_number m) ≡ m
modulation-back None = refl
modulation-back Phase = refl
modulation-back Ring = refl
modulation-back HardSync = refl
modulation-back Window = refl
modulation-back SlewRate = refl
modulation-back SlewStep = refl

-- ---- control registers

module _ (r : Registers) (offset : ℕ) where
  pub read-lt : FitRegisters r → read_registers r offset < 256
  unfolding read_registers
  read-lt f =
      cond-by small (leb offset 1) _ _ (λ e. byte-lt (1 - offset) r.frequency)
      (λ e. cond-by small (eqb offset 2) _ _ (λ e. omega (arith, waveform-lt r.waveform_type))
      (λ e. cond-by small (eqb offset 3) _ _ (λ e. f.volume)
      (λ e. cond-by small (eqb offset 4) _ _ (λ e. f.panpot)
      (λ e. cond-by small (eqb offset 5) _ _ (λ e. omega (arith, modulation-lt r.modulation_type))
      (λ e. cond-by small (leb offset 7) _ _ (λ e. byte-lt (7 - offset) r.modulation_param_1)
      (λ e. cond-by small (leb offset 9) _ _ (λ e. byte-lt (9 - offset) r.modulation_param_2)
      (λ e. cond-by small (eqb offset 11) _ _ (λ e. omega arith)
      (λ e. omega arith))))))))
    where
      small : ℕ → Type 0
      small n = n < 256

  -- a byte of 16 bits
  word : (k value n : ℕ) → k ≤ 1 → value < 256 → n < 2 ^ 16 → with_byte k value n < 2 ^ 16
  word k value n l h m = with-field-lt (8 * k) 8 value n 16 (omega arith) h m

  pub write-fits : (value : ℕ) → value < 256 → FitRegisters r → FitRegisters (write_registers r offset value)
  unfolding write_registers
  write-fits value h f =
      cond-by FitRegisters (leb offset 1) _ _
      (λ e. record { frequency = word (1 - offset) value r.frequency (omega arith) h f.frequency; volume = f.volume; panpot = f.panpot; param1 = f.param1; param2 = f.param2 })
      (λ e1. cond-by FitRegisters (eqb offset 2) _ _ (λ e. f)
      (λ e2. cond-by FitRegisters (eqb offset 3) _ _ (λ e. record { frequency = f.frequency; volume = h; panpot = f.panpot; param1 = f.param1; param2 = f.param2 })
      (λ e3. cond-by FitRegisters (eqb offset 4) _ _ (λ e. record { frequency = f.frequency; volume = f.volume; panpot = h; param1 = f.param1; param2 = f.param2 })
      (λ e4. cond-by FitRegisters (eqb offset 5) _ _ (λ e. record { frequency = f.frequency; volume = f.volume; panpot = f.panpot; param1 = f.param1; param2 = f.param2 })
      (λ e5. cond-by FitRegisters (leb offset 7) _ _
      (λ e. record { frequency = f.frequency; volume = f.volume; panpot = f.panpot; param1 = word (7 - offset) value r.modulation_param_1 (omega (arith, leb-false offset 1 e1, eqb-false offset 2 e2, eqb-false offset 3 e3, eqb-false offset 4 e4, eqb-false offset 5 e5)) h f.param1; param2 = f.param2 })
      (λ e7. cond-by FitRegisters (leb offset 9) _ _
      (λ e. record { frequency = f.frequency; volume = f.volume; panpot = f.panpot; param1 = f.param1; param2 = word (9 - offset) value r.modulation_param_2 (omega (arith, leb-false offset 7 e7)) h f.param2 })
      (λ e. cond-by FitRegisters (eqb offset 11) _ _ (λ e. record { frequency = f.frequency; volume = f.volume; panpot = f.panpot; param1 = f.param1; param2 = f.param2 })
      (λ e. f))))))))

pub waveform-fits : (r : Registers) (w : WaveformType) → FitRegisters r → FitRegisters (set_waveform r w)
waveform-fits r w f = record { frequency = f.frequency; volume = f.volume; panpot = f.panpot; param1 = f.param1; param2 = f.param2 }

-- ---- PCM registers

module _ (p : PcmRegisters) (offset : ℕ) where
  pub read-pcm-lt : FitPcm p → read_pcm p offset < 256
  unfolding read_pcm
  read-pcm-lt f =
      cond-by small (leb offset 2) _ _ (λ e. byte-lt (2 - offset) p.start_addr)
      (λ e. cond-by small (leb offset 5) _ _ (λ e. byte-lt (5 - offset) p.end_addr)
      (λ e. cond-by small (leb offset 8) _ _ (λ e. byte-lt (8 - offset) p.loop_addr)
      (λ e. cond-by small (eqb offset 9) _ _ (λ e. f.control)
      (λ e. omega arith))))
    where
      small : ℕ → Type 0
      small n = n < 256

  pub write-pcm-fits : (value : ℕ) → value < 256 → FitPcm p → FitPcm (write_pcm p offset value)
  unfolding write_pcm
  write-pcm-fits value h f =
      cond-by FitPcm (leb offset 2) _ _ (λ e. record { control = f.control })
      (λ e. cond-by FitPcm (leb offset 5) _ _ (λ e. record { control = f.control })
      (λ e. cond-by FitPcm (leb offset 8) _ _ (λ e. record { control = f.control })
      (λ e. cond-by FitPcm (eqb offset 9) _ _ (λ e. record { control = h })
      (λ e. f))))

-- ---- the queue

module _ (f : Fifo) (q : List ℤ) where
  pub push-entries-fit : (x : ℤ) → SFits w16 x → FitEntries q → FitEntries (pushed_entries f q x)
  unfolding pushed_entries
  push-entries-fit x h e =
      cond-by FitEntries (ltb f.count fifo_capacity) _ _ (λ t. record { each = each_set (SFits w16) (pos 0) x h q e.each (place f) }) (λ t. e)

  module _ (frequency : ℕ) (e : FitEntries q) where
    pub pop-fits : FitFifo f → FitFifo (popped f q frequency)
    unfolding popped
    pop-fits g = cond-by FitFifo (eqb f.count 0) _ _ (λ t. g) (λ t. record { sample = e.each (f.head % fifo_capacity); byte = g.byte })

    pub advance-fits : FitFifo f → FitFifo (advanced f q frequency)
    unfolding advanced
    advance-fits g = cond-by FitFifo (eqb f.hold 0) _ _ (λ t. pop-fits g) (λ t. record { sample = g.sample; byte = g.byte })

    pub tick-fits : FitFifo f → FitFifo (ticked f q frequency)
    unfolding ticked
    tick-fits g =
        let h = cond-by FitFifo (eqb f.sub 0) (advanced f q frequency) f (λ t. advance-fits g) (λ t. g) in
        record { sample = h.sample; byte = h.byte }

  pub pushed-fits : FitFifo f → FitFifo (pushed f)
  unfolding pushed
  pushed-fits g = cond-by FitFifo (ltb f.count fifo_capacity) _ _ (λ t. record { sample = g.sample; byte = g.byte }) (λ t. g)
