-- A channel: a fresh one, one with a part set, one under another version.
use Rattle.registers.specs.Waveforms.{under}
use Rattle.registers.specs.Control.{default_registers, set_waveform}
use Rattle.registers.specs.Pcm.{default_pcm}
use Rattle.registers.specs.Queue.{default_fifo}
use Rattle.version.specs.declared.SguVersion.{SguVersion}
use Rattle.registers.specs.declared.Registers.{Registers}
use Rattle.registers.specs.declared.PcmRegisters.{PcmRegisters}
use Rattle.registers.specs.declared.Fifo.{Fifo}
use Rattle.stream.specs.Cache.{emptied}
use Rattle.stream.specs.declared.StreamCache.{StreamCache}
use Rattle.ticks.specs.Oscillators.{default_oscillator}
use Rattle.ticks.specs.declared.Oscillator.{Oscillator}
use Rattle.voice.specs.declared.Channel.{Channel}

abbrev pub default_channel : Channel
default_channel = record { oscillator = default_oscillator; fifo = default_fifo; stream = emptied; pcm = default_pcm; registers = default_registers }

-- ---- one part set, the others as they were

abbrev pub set_oscillator : Channel → Oscillator → Channel
set_oscillator c x = record { oscillator = x; fifo = c.fifo; stream = c.stream; pcm = c.pcm; registers = c.registers }

abbrev pub set_fifo : Channel → Fifo → Channel
set_fifo c x = record { oscillator = c.oscillator; fifo = x; stream = c.stream; pcm = c.pcm; registers = c.registers }

abbrev pub set_stream : Channel → StreamCache → Channel
set_stream c x = record { oscillator = c.oscillator; fifo = c.fifo; stream = x; pcm = c.pcm; registers = c.registers }

abbrev pub set_pcm : Channel → PcmRegisters → Channel
set_pcm c x = record { oscillator = c.oscillator; fifo = c.fifo; stream = c.stream; pcm = x; registers = c.registers }

abbrev pub set_registers : Channel → Registers → Channel
set_registers c x = record { oscillator = c.oscillator; fifo = c.fifo; stream = c.stream; pcm = c.pcm; registers = x }

-- ---- under another version: a FIFO voice becomes a wavetable voice where there is none; queue and cache are emptied
unfoldable pub set_channel_version : Channel → SguVersion → Channel
set_channel_version c version =
    set_stream (set_fifo (set_registers c (set_waveform c.registers (under c.registers.waveform_type version))) default_fifo) emptied
