-- Document 01's eight marked cases: one table of the definitions (proofs/Marked.antt computes it). In cases 1 and 2 registers are
-- written to a fresh V3.1 chip, over any RAM and any queue buffer of the right length, and the left side of the frame that it
-- then gives is looked at.
use Rattle.std.specs.Prelude.{false, List, [], ◌∷◌, ℕ, ℤ, pos, negsuc}
use Rattle.sizes.specs.Sizes.{num_channels}
use Rattle.adpcm.specs.declared.State.{State}
use Rattle.adpcm.specs.declared.Variant.TheVariants.{H, LPlus}
use Rattle.adpcm.specs.Codes.{delta_of, applied_volume, legacy_volume}
use Rattle.tone.specs.Noise.{next_lfsr}
use Rattle.tone.specs.Targets.{absolute_channel}
use Rattle.version.specs.declared.SguVersion.TheVariants.{V3_1}
use Rattle.voices.specs.Core.{fresh_core}
use Rattle.voices.specs.Writes.{write_register, write_register_queues}
use Rattle.voices.specs.declared.Core.{Core}
use Rattle.sides.specs.Sides.{side_sum}
use Rattle.frames.specs.Turning.{frame}

-- ---- registers written one after the other, then a frame
pub record Write : Type 0 where
  pub address : ℕ
  pub value : ℕ

abbrev pub to : ℕ → ℕ → Write
to address value = record { address = address; value = value }

unfoldable pub left_side_after : List Write → Core → List ℕ → List ℤ → ℤ
left_side_after [] core ram queues = side_sum num_channels (frame V3_1 ram queues core).stems 0
left_side_after (w ∷ rest) core ram queues =
    left_side_after rest (write_register V3_1 core w.address w.value) ram (write_register_queues V3_1 core queues w.address w.value)

-- case 1: a wave byte, volume and pan; case 2: the waveform and a sample
abbrev pub wave_writes : List Write
wave_writes = to 0 1 ∷ to 2051 255 ∷ to 2052 136 ∷ []

abbrev pub fifo_writes : List Write
fifo_writes = to 2050 5 ∷ to 2060 127 ∷ to 2061 255 ∷ []

-- step size 7
abbrev at_seven : State
at_seven = record { predictor = pos 0; index = 0 }

-- what the definitions give
abbrev pub found : List ℕ → List ℤ → List ℤ
found ram queues =
    left_side_after wave_writes fresh_core ram queues
    ∷ left_side_after fifo_writes fresh_core ram queues
    ∷ applied_volume (negsuc 0) 128 ∷ legacy_volume (negsuc 0) 128
    ∷ applied_volume (pos 1) 127
    ∷ delta_of 3 H at_seven 15
    ∷ delta_of 1 LPlus at_seven 0 ∷ delta_of 2 LPlus at_seven 0
    ∷ pos (absolute_channel 0 1 7) ∷ pos (absolute_channel 7 1 3)
    ∷ pos (next_lfsr 315916348 false 0 0)
    ∷ []

-- what document 01 says
abbrev pub wanted : List ℤ
wanted = negsuc 2155 ∷ pos 16380 ∷ negsuc 0 ∷ pos 0 ∷ pos 0 ∷ negsuc 10 ∷ pos 9 ∷ pos 1 ∷ pos 7 ∷ pos 2 ∷ pos 157958174 ∷ []
