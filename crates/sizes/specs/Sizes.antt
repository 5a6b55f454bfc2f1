-- The chip's numbers, each said once.
use Rattle.std.specs.Prelude.{ℕ, ◌+◌, ◌*◌}

abbrev pub num_channels : ℕ
num_channels = 8

abbrev pub wavetable_size : ℕ
wavetable_size = 256

-- the wavetables of all channels; the registers from 0 on
abbrev pub wavetables_size : ℕ
wavetables_size = num_channels * wavetable_size

-- a channel's block of registers behind the wavetables, and the end of the blocks
abbrev pub block_size : ℕ
block_size = 32

abbrev pub registers_end : ℕ
registers_end = wavetables_size + num_channels * block_size

abbrev pub fifo_capacity : ℕ
fifo_capacity = 2048

-- the queue buffer of all channels
abbrev pub queue_buffer : ℕ
queue_buffer = num_channels * fifo_capacity

abbrev pub ticks_per_frame : ℕ
ticks_per_frame = 4

-- a left and a right one for each channel
abbrev pub stems_per_frame : ℕ
stems_per_frame = 2 * num_channels

-- RAM lengths are the powers of two from one to the other
abbrev pub ram_least : ℕ
ram_least = 256

abbrev pub ram_most : ℕ
ram_most = 16777216

-- the number of V3.1, the last version
abbrev pub last_version : ℕ
last_version = 4
