-- What holds of every voice of the chip that calls can reach.
use Rattle.std.specs.Prelude.{◌≡◌, List, ℕ, length}
use Rattle.sizes.specs.Sizes.{fifo_capacity}
use Rattle.version.specs.Versions.{has34si22}
use Rattle.version.specs.declared.SguVersion.{SguVersion}
use Rattle.registers.specs.Control.{FitRegisters}
use Rattle.registers.specs.Pcm.{FitPcm}
use Rattle.registers.specs.Queue.{FitFifo}
use Rattle.registers.specs.PlainQueue.{FitEntries}
use Rattle.stream.specs.Cache.{stock}
use Rattle.stream.specs.Coherent.{CoherentIn}
use Rattle.ticks.specs.Oscillators.{FitOscillator}
use Rattle.voice.specs.Accepted.{AcceptedChannel}
use Rattle.voice.specs.declared.Channel.{Channel}
use Rattle.slots.specs.Slots.{Slot}
use Rattle.slots.specs.Models.{SlotPair}
use Rattle.plain_chip.specs.Good.{Bytes}
use Rattle.pair_chip.specs.Pairs.{PairOk}

-- the ranges that the types give
pub record FitChannel (c : Channel) : Type 0 where
  pub registers : FitRegisters c.registers
  pub pcm : FitPcm c.pcm
  pub oscillator : FitOscillator c.oscillator
  pub fifo : FitFifo c.fifo

-- a cache that agrees with the RAM, with 128 decoded samples beside it
abbrev pub CoherentSlot : SguVersion → List ℕ → Slot → Type 0
CoherentSlot version ram s =
    let p = s.channel.pcm in
    CoherentIn ram (has34si22 version) p.start_addr p.end_addr p.loop_addr (stock s.channel.stream s.fragments)

pub record SlotOk (version : SguVersion) (ram : List ℕ) (s : Slot) : Type 0 where
  pub accepted : AcceptedChannel s.channel version (length ram)
  pub coherent : CoherentSlot version ram s
  pub fits : FitChannel s.channel
  pub table : length s.wavetable ≡ 256
  pub bytes : Bytes s.wavetable
  pub room : length s.queue ≡ fifo_capacity
  pub entries : FitEntries s.queue

-- an accepted voice, whatever its cache holds; `ram` is the RAM's length
pub record AcceptedSlot (version : SguVersion) (ram : ℕ) (s : Slot) : Type 0 where
  pub accepted : AcceptedChannel s.channel version ram
  pub fits : FitChannel s.channel
  pub fragments : length s.fragments ≡ 128
  pub table : length s.wavetable ≡ 256
  pub bytes : Bytes s.wavetable
  pub room : length s.queue ≡ fifo_capacity
  pub entries : FitEntries s.queue

abbrev pub SlotPairOk : SlotPair → Type 0
SlotPairOk w = PairOk SlotOk w
