-- The numbers of the chip's two cores, each said once.
use Rattle.std.specs.Prelude.{ℕ, ◌*◌}
use Rattle.sizes.specs.Sizes.{num_channels, queue_buffer, stems_per_frame}

abbrev pub num_cores : ℕ
num_cores = 2

-- voice v is channel v % 8 of core v / 8
abbrev pub chip_voices : ℕ
chip_voices = num_cores * num_channels

-- the queue buffer: core 0's entries, then core 1's
abbrev pub chip_queues : ℕ
chip_queues = num_cores * queue_buffer

-- a frame's stems: core 0's, then core 1's
abbrev pub chip_stems : ℕ
chip_stems = num_cores * stems_per_frame
