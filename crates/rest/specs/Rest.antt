-- A core at rest: eight fresh channels, at the first byte of each wavetable the centre, and decoded fragments of zeros.
use Rattle.std.specs.Prelude.{Bool, true, not, ◌&&◌, List, [], ◌∷◌, ℕ, zero, suc, ◌*◌, eqb, ℤ, pos, nat_abs, get_or, is_none}
use Rattle.sizes.specs.Sizes.{num_channels, wavetable_size}
use Rattle.registers.specs.Control.{default_registers}
use Rattle.registers.specs.Waveforms.{waveform_number, modulation_number}
use Rattle.registers.specs.declared.Fifo.{Fifo}
use Rattle.registers.specs.declared.PcmRegisters.{PcmRegisters}
use Rattle.registers.specs.declared.Registers.{Registers}
use Rattle.stream.specs.declared.Info.{Info}
use Rattle.stream.specs.declared.StreamCache.{StreamCache}
use Rattle.ticks.specs.Oscillators.{default_oscillator}
use Rattle.ticks.specs.declared.Oscillator.{Oscillator}
use Rattle.voice.specs.declared.Channel.{Channel}
use Rattle.voices.specs.Core.{no_channel}
use Rattle.voices.specs.declared.Core.{Core}

-- all of some tests
abbrev pub all_pass_from : Bool → List Bool → Bool
all_pass_from a [] = a
all_pass_from a (b ∷ l) = all_pass_from (a && b) l

abbrev pub all_pass : List Bool → Bool
all_pass l = all_pass_from true l

-- ---- the parts of a fresh channel, and the tests that each passes
abbrev pub is_zero : ℤ → Bool
is_zero z = eqb (nat_abs z) 0

abbrev pub oscillator_tests : Oscillator → List Bool
oscillator_tests o =
    eqb o.phase 0
    ∷ eqb o.old_phase 0
    ∷ eqb o.lfsr_state default_oscillator.lfsr_state
    ∷ is_zero o.last_sample
    ∷ eqb o.slew_current 0
    ∷ []

unfoldable pub is_fresh_oscillator : Oscillator → Bool
is_fresh_oscillator o = all_pass (oscillator_tests o)

abbrev pub fifo_tests : Fifo → List Bool
fifo_tests f = eqb f.head 0 ∷ eqb f.count 0 ∷ is_zero f.held ∷ eqb f.hold 0 ∷ eqb f.sub 0 ∷ eqb f.latch 0 ∷ []

unfoldable pub is_fresh_fifo : Fifo → Bool
is_fresh_fifo f = all_pass (fifo_tests f)

abbrev pub info_tests : Info → List Bool
info_tests i = eqb i.version 0 ∷ eqb i.sample_count 0 ∷ eqb i.frame_samples 0 ∷ eqb i.frame_size 0 ∷ eqb i.loop_sample 0 ∷ []

unfoldable pub is_no_info : Info → Bool
is_no_info i = all_pass (info_tests i)

abbrev pub cache_tests : StreamCache → List Bool
cache_tests s =
    not s.valid
    ∷ is_none s.variant
    ∷ is_no_info s.info
    ∷ is_none s.even
    ∷ is_none s.odd
    ∷ eqb s.next_frame 0
    ∷ is_zero s.decoder.predictor
    ∷ eqb s.decoder.index 0
    ∷ []

unfoldable pub is_emptied : StreamCache → Bool
is_emptied s = all_pass (cache_tests s)

abbrev pub pcm_tests : PcmRegisters → List Bool
pcm_tests p = eqb p.start_addr 0 ∷ eqb p.end_addr 0 ∷ eqb p.loop_addr 0 ∷ eqb p.control 0 ∷ eqb p.sample_control 0 ∷ p.active ∷ []

unfoldable pub is_fresh_pcm : PcmRegisters → Bool
is_fresh_pcm p = all_pass (pcm_tests p)

abbrev pub register_tests : Registers → List Bool
register_tests g =
    eqb g.frequency 0
    ∷ eqb (waveform_number g.waveform_type) 0
    ∷ eqb g.volume 0
    ∷ eqb g.panpot default_registers.panpot
    ∷ eqb (modulation_number g.modulation_type) 0
    ∷ eqb g.modulation_target 0
    ∷ eqb g.modulation_targeting_mode 0
    ∷ eqb g.modulation_param_1 0
    ∷ eqb g.modulation_param_2 0
    ∷ []

unfoldable pub is_fresh_registers : Registers → Bool
is_fresh_registers g = all_pass (register_tests g)

abbrev pub channel_tests : Channel → List Bool
channel_tests c =
    is_fresh_oscillator c.oscillator ∷ is_fresh_fifo c.fifo ∷ is_emptied c.stream ∷ is_fresh_pcm c.pcm ∷ is_fresh_registers c.registers ∷ []

unfoldable pub is_fresh_channel : Channel → Bool
is_fresh_channel c = all_pass (channel_tests c)

-- ---- a core
-- every number below n passes a test
unfoldable pub every : ℕ → (ℕ → Bool) → Bool
every zero f = true
every (suc n) f = every n f && f n

abbrev pub fresh_channels : List Channel → Bool
fresh_channels l = every num_channels (λ ch. is_fresh_channel (get_or l ch no_channel))

-- the one byte of its wavetable that a fresh voice plays
abbrev pub first_centred : List ℕ → Bool
first_centred w = every num_channels (λ ch. eqb (get_or w (ch * wavetable_size) 0) 128)

abbrev pub zero_fragments : List ℤ → Bool
zero_fragments l = every 1024 (λ i. is_zero (get_or l i (pos 0)))

unfoldable pub rests : Core → Bool
rests k = fresh_channels k.channels && (first_centred k.wavetables && zero_fragments k.fragments)
