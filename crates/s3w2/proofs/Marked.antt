-- Document 01's eight marked cases, computed together. Assumes nothing.
use mathlib.Core.Path.{◌≡◌, ap, ◌∙◌}
use mathlib.Core.List.{List, [], ◌∷◌}
use Prim.Native.Nat.{ℕ}
use native.Mathlib.Omega.{arith}
use lib.IntN.{ℤ, pos, negsuc}
use lib.ListN.{length}
use Rattle.sizes.specs.Sizes.{queue_buffer, fifo_capacity}
use Rattle.adpcm.specs.Ima.{step_sizes, step_size, difference}
use Rattle.adpcm.specs.Codes.{levels_of, delta_of}
use Rattle.tone.specs.Shape.{ring, slew_rate, slew_step, slew, slewed, centred}
use Rattle.tone.specs.Noise.{next_lfsr}
use Rattle.tone.specs.Targets.{absolute_channel}
use Rattle.tone.specs.Mix.{master_gain, pan, wrapping_add}
use Rattle.tone.specs.Mix as mix
use Rattle.version.specs.declared.SguVersion.TheVariants.{V3_1}
use Rattle.registers.specs.Control.{write_registers}
use Rattle.registers.specs.Queue.{pushed, pushed_entries, popped, advanced, ticked}
use Rattle.ticks.specs.Again.{again}
use Rattle.ticks.specs.Finish.{finished}
use Rattle.ticks.specs.Mix.{heard, sound_after}
use Rattle.ticks.specs.Sounds.{ticks_of}
use Rattle.ticks.specs.Queues.{queue_tick, queue_ticks}
use Rattle.ticks.specs.Wavetable.{looks_at, wavetable_at}
use Rattle.voice.specs.Writes.{write_control, write_control_entries, waveform_written, latch_written, sample_written, sample_entries}
use Rattle.voices.specs.Core.{fresh_core, stored_channel, no_fragments}
use Rattle.voices.specs.Writes.{write_register, write_register_queues, write_block, write_block_queues, write_channel_control, write_channel_control_queues, write_wavetable}
use Rattle.voices.specs.declared.Core.{Core}
use Rattle.sides.specs.Sides.{side_sum}
use Rattle.frames.specs.Ticking.{voice_tick, voice_ticks}
use Rattle.frames.specs.Turning.{turned}
use Rattle.frames.proofs.Parts.{part-back}
use Rattle.s3w2.specs.Marked.{left_side_after, fifo_writes, found, wanted}

-- the chip with the waveform written, and with the sample's high byte too
abbrev fifo_voice : Core
fifo_voice = write_register V3_1 fresh_core 2050 5

abbrev latched : Core
latched = write_register V3_1 fifo_voice 2060 127

-- a queue buffer: a first entry, those behind it in the first voice's part, and the others
module _ (first : ℤ) (rest : List ℤ) (long : length (first ∷ rest) ≡ queue_buffer) where
  -- neither moves an entry
  waveform-write : write_register_queues V3_1 fresh_core (first ∷ rest) 2050 5 ≡ first ∷ rest
  unfolding write_register_queues write_block_queues write_channel_control_queues write_control_entries sample_entries pushed_entries write_register write_block write_channel_control write_control waveform_written latch_written sample_written pushed stored_channel no_fragments write_registers
  waveform-write = part-back (first ∷ rest) 0 fifo_capacity (omega arith)

  latch-write : write_register_queues V3_1 fifo_voice (first ∷ rest) 2060 127 ≡ first ∷ rest
  unfolding write_register_queues write_block_queues write_channel_control_queues write_control_entries sample_entries pushed_entries write_register write_block write_channel_control write_control waveform_written latch_written sample_written pushed stored_channel no_fragments write_registers
  latch-write = part-back (first ∷ rest) 0 fifo_capacity (omega arith)

  -- the low byte pushes the sample to the first place
  sample-write : write_register_queues V3_1 latched (first ∷ rest) 2061 255 ≡ pos 32767 ∷ rest
  unfolding write_register_queues write_block_queues write_channel_control_queues write_control_entries sample_entries pushed_entries write_register write_block write_channel_control write_control waveform_written latch_written sample_written pushed stored_channel no_fragments write_registers
  sample-write = part-back (pos 32767 ∷ rest) 1 2047 (omega arith)

  all-written : write_register_queues V3_1 latched (write_register_queues V3_1 fifo_voice (write_register_queues V3_1 fresh_core (first ∷ rest) 2050 5) 2060 127) 2061 255 ≡ pos 32767 ∷ rest
  all-written =
      ap (λ (q : List ℤ). write_register_queues V3_1 latched (write_register_queues V3_1 fifo_voice q 2060 127) 2061 255) waveform-write
      ∙ ap (λ (q : List ℤ). write_register_queues V3_1 latched q 2061 255) latch-write
      ∙ sample-write

  fifo-side : (ram : List ℕ) → left_side_after fifo_writes fresh_core ram (first ∷ rest) ≡ pos 16380
  unfolding left_side_after step_sizes step_size difference levels_of delta_of absolute_channel next_lfsr turned voice_tick voice_ticks side_sum write_register write_register_queues write_block write_block_queues write_channel_control write_channel_control_queues write_control write_control_entries waveform_written latch_written sample_written sample_entries write_registers write_wavetable stored_channel no_fragments pushed pushed_entries popped advanced ticked again queue_tick queue_ticks ticks_of looks_at wavetable_at ring slew slewed centred slew_rate slew_step heard sound_after finished mix.volume_of master_gain pan wrapping_add
  fifo-side ram = ap (λ (q : List ℤ). left_side_after [] (write_register V3_1 latched 2061 255) ram q) all-written

pub marked : (ram : List ℕ) (queues : List ℤ) → length queues ≡ queue_buffer → found ram queues ≡ wanted
unfolding left_side_after step_sizes step_size difference levels_of delta_of absolute_channel next_lfsr turned voice_tick voice_ticks side_sum write_register write_register_queues write_block write_block_queues write_channel_control write_channel_control_queues write_control write_control_entries waveform_written latch_written sample_written sample_entries write_registers write_wavetable stored_channel no_fragments pushed pushed_entries popped advanced ticked again queue_tick queue_ticks ticks_of looks_at wavetable_at ring slew slewed centred slew_rate slew_step heard sound_after finished mix.volume_of master_gain pan wrapping_add
marked ram [] long = absurd (omega arith)
marked ram (first ∷ rest) long = ap (λ (z : ℤ). negsuc 2155 ∷ z ∷ negsuc 0 ∷ pos 0 ∷ pos 0 ∷ negsuc 10 ∷ pos 9 ∷ pos 1 ∷ pos 7 ∷ pos 2 ∷ pos 157958174 ∷ []) (fifo-side first rest long ram)
