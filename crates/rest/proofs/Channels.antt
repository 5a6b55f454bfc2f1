-- A channel that passes the test is the fresh one. Assumes nothing.
use mathlib.Core.Path.{◌≡◌, refl, sym}
use mathlib.Core.Bool.{true}
use lib.Dec.{eqb}
use Rattle.std.specs.Prelude.{Option, Some, None, is_none}
use lib.IntN.{ℤ, pos, nat_abs}
use borrow.Author.Tests.{eqb-true, not-true}
use Rattle.num.proofs.Choice.{never}
use Rattle.registers.proofs.Accepted.{no_size}
use Rattle.registers.specs.Control.{default_registers}
use Rattle.registers.specs.Pcm.{default_pcm}
use Rattle.registers.specs.Queue.{default_fifo}
use Rattle.registers.specs.Waveforms.{waveform_number, modulation_number}
use Rattle.registers.specs.declared.Fifo.{Fifo}
use Rattle.registers.specs.declared.ModulationType.{ModulationType}
use Rattle.registers.specs.declared.ModulationType.TheVariants as modulations
use Rattle.registers.specs.declared.PcmRegisters.{PcmRegisters}
use Rattle.registers.specs.declared.Registers.{Registers}
use Rattle.registers.specs.declared.WaveformType.{WaveformType}
use Rattle.registers.specs.declared.WaveformType.TheVariants as waveforms
use Rattle.stream.specs.Cache.{no_info, emptied}
use Rattle.stream.specs.declared.Info.{Info}
use Rattle.stream.specs.declared.StreamCache.{StreamCache}
use Rattle.ticks.specs.Oscillators.{default_oscillator}
use Rattle.ticks.specs.declared.Oscillator.{Oscillator}
use Rattle.voice.specs.Channel.{default_channel}
use Rattle.voice.specs.declared.Channel.{Channel}
use Rattle.rest.specs.Rest.{is_zero, oscillator_tests, is_fresh_oscillator, fifo_tests, is_fresh_fifo, info_tests, is_no_info, cache_tests, is_emptied}
use Rattle.rest.specs.Rest.{pcm_tests, is_fresh_pcm, register_tests, is_fresh_registers, channel_tests, is_fresh_channel}
use Rattle.rest.proofs.Tests.{all-at}

-- ---- one value
zero_is : (z : ℤ) → is_zero z ≡ true → z ≡ pos 0
zero_is z e = no_size z (eqb-true (nat_abs z) 0 e)

none_is : {A : Type 0} (x : Option A) → is_none x ≡ true → x ≡ None
none_is None e = refl
none_is (Some a) e = never (sym e)

wavetable-is : (w : WaveformType) → eqb (waveform_number w) 0 ≡ true → w ≡ waveforms.Wavetable
wavetable-is waveforms.Wavetable e = refl
wavetable-is waveforms.Pcm e = never (sym e)
wavetable-is waveforms.Noise e = never (sym e)
wavetable-is waveforms.DmaPcm e = never (sym e)
wavetable-is waveforms.Sqv4 e = never (sym e)
wavetable-is waveforms.FifoDac e = never (sym e)

unmodulated-is : (m : ModulationType) → eqb (modulation_number m) 0 ≡ true → m ≡ modulations.None
unmodulated-is modulations.None e = refl
unmodulated-is modulations.Phase e = never (sym e)
unmodulated-is modulations.Ring e = never (sym e)
unmodulated-is modulations.HardSync e = never (sym e)
unmodulated-is modulations.Window e = never (sym e)
unmodulated-is modulations.SlewRate e = never (sym e)
unmodulated-is modulations.SlewStep e = never (sym e)

-- ---- the parts
oscillator-is : (o : Oscillator) → is_fresh_oscillator o ≡ true → o ≡ default_oscillator
unfolding is_fresh_oscillator
oscillator-is o e =
    let t = all-at (oscillator_tests o) e in
    λ i. record {
      phase = eqb-true o.phase 0 (t 0) i;
      old_phase = eqb-true o.old_phase 0 (t 1) i;
      lfsr_state = eqb-true o.lfsr_state default_oscillator.lfsr_state (t 2) i;
      last_sample = zero_is o.last_sample (t 3) i;
      slew_current = eqb-true o.slew_current 0 (t 4) i;
    }

fifo-is : (f : Fifo) → is_fresh_fifo f ≡ true → f ≡ default_fifo
unfolding is_fresh_fifo
fifo-is f e =
    let t = all-at (fifo_tests f) e in
    λ i. record {
      head = eqb-true f.head 0 (t 0) i;
      count = eqb-true f.count 0 (t 1) i;
      held = zero_is f.held (t 2) i;
      hold = eqb-true f.hold 0 (t 3) i;
      sub = eqb-true f.sub 0 (t 4) i;
      latch = eqb-true f.latch 0 (t 5) i;
    }

info-is : (n : Info) → is_no_info n ≡ true → n ≡ no_info
unfolding is_no_info
info-is n e =
    let t = all-at (info_tests n) e in
    λ i. record {
      version = eqb-true n.version 0 (t 0) i;
      sample_count = eqb-true n.sample_count 0 (t 1) i;
      frame_samples = eqb-true n.frame_samples 0 (t 2) i;
      frame_size = eqb-true n.frame_size 0 (t 3) i;
      loop_sample = eqb-true n.loop_sample 0 (t 4) i;
    }

cache-is : (s : StreamCache) → is_emptied s ≡ true → s ≡ emptied
unfolding is_emptied
cache-is s e =
    let t = all-at (cache_tests s) e in
    λ i. record {
      valid = not-true s.valid (t 0) i;
      variant = none_is s.variant (t 1) i;
      info = info-is s.info (t 2) i;
      even = none_is s.even (t 3) i;
      odd = none_is s.odd (t 4) i;
      next_frame = eqb-true s.next_frame 0 (t 5) i;
      decoder = record { predictor = zero_is s.decoder.predictor (t 6) i; index = eqb-true s.decoder.index 0 (t 7) i };
    }

pcm-is : (p : PcmRegisters) → is_fresh_pcm p ≡ true → p ≡ default_pcm
unfolding is_fresh_pcm
pcm-is p e =
    let t = all-at (pcm_tests p) e in
    λ i. record {
      start_addr = eqb-true p.start_addr 0 (t 0) i;
      end_addr = eqb-true p.end_addr 0 (t 1) i;
      loop_addr = eqb-true p.loop_addr 0 (t 2) i;
      control = eqb-true p.control 0 (t 3) i;
      sample_control = eqb-true p.sample_control 0 (t 4) i;
      active = t 5 i;
    }

registers-is : (g : Registers) → is_fresh_registers g ≡ true → g ≡ default_registers
unfolding is_fresh_registers
registers-is g e =
    let t = all-at (register_tests g) e in
    λ i. record {
      frequency = eqb-true g.frequency 0 (t 0) i;
      waveform_type = wavetable-is g.waveform_type (t 1) i;
      volume = eqb-true g.volume 0 (t 2) i;
      panpot = eqb-true g.panpot default_registers.panpot (t 3) i;
      modulation_type = unmodulated-is g.modulation_type (t 4) i;
      modulation_target = eqb-true g.modulation_target 0 (t 5) i;
      modulation_targeting_mode = eqb-true g.modulation_targeting_mode 0 (t 6) i;
      modulation_param_1 = eqb-true g.modulation_param_1 0 (t 7) i;
      modulation_param_2 = eqb-true g.modulation_param_2 0 (t 8) i;
    }

pub channel-is : (c : Channel) → is_fresh_channel c ≡ true → c ≡ default_channel
unfolding is_fresh_channel
channel-is c e =
    let t = all-at (channel_tests c) e in
    λ i. record {
      oscillator = oscillator-is c.oscillator (t 0) i;
      fifo = fifo-is c.fifo (t 1) i;
      stream = cache-is c.stream (t 2) i;
      pcm = pcm-is c.pcm (t 3) i;
      registers = registers-is c.registers (t 4) i;
    }

pub default-fresh : is_fresh_channel default_channel ≡ true
unfolding is_fresh_channel is_fresh_oscillator is_fresh_fifo is_no_info is_emptied is_fresh_pcm is_fresh_registers
default-fresh = refl
