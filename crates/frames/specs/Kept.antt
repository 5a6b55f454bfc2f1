-- What a voice's ticks from silence on keep: an accepted channel, the ranges that the types give, and sides that fit.
use Rattle.std.specs.Prelude.{◌≡◌, ℕ, ◌^◌, ◌<◌, ◌≤◌, List, slice_index}
use Rattle.version.specs.declared.SguVersion.{SguVersion}
use Rattle.registers.specs.Queue.{FitFifo}
use Rattle.ticks.specs.Mix.{Room}
use Rattle.ticks.specs.Oscillators.{FitOscillator}
use Rattle.ticks.specs.declared.Sides.{Sides}
use Rattle.voice.specs.Accepted.{AcceptedChannel}
use Rattle.voice.specs.Sounding.{kind_of}
use Rattle.voice.specs.declared.Channel.{Channel}
use Rattle.voice.specs.declared.Kind.TheVariants as kinds

abbrev pub EachByte : List ℕ → Type 0
EachByte l = (i : ℕ) → slice_index l i < 256

-- the ranges that the types give
pub record FitSounding (c : Channel) : Type 0 where
  pub oscillator : FitOscillator c.oscillator
  pub fifo : FitFifo c.fifo
  pub volume : c.registers.volume ≤ 255
  pub panpot : c.registers.panpot < 256
  pub frequency : c.registers.frequency < 2 ^ 16

-- a channel and its sides after n ticks from silence on; `ram` is the RAM's length
pub record Kept (version : SguVersion) (ram n : ℕ) (c : Channel) (sides : Sides) : Type 0 where
  pub accepted : AcceptedChannel c version ram
  pub fits : FitSounding c
  pub room : Room n sides

-- ticks that make d of an accepted channel c
abbrev pub Keeps : SguVersion → ℕ → ℕ → Channel → Channel → Sides → Type 0
Keeps version ram n c d sides = AcceptedChannel c version ram → Kept version ram n d sides

-- of a FIFO voice, whatever the RAM's length
abbrev pub KeepsFifo : SguVersion → ℕ → Channel → Channel → Sides → Type 0
KeepsFifo version n c d sides = kind_of c ≡ kinds.FifoDac → (ram : ℕ) → Keeps version ram n c d sides
