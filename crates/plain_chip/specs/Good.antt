-- What holds of every voice that calls can reach.
use Rattle.std.specs.Prelude.{◌≡◌, true, false, List, ℕ, ◌≤◌, ◌<◌, length, get_or}
use Rattle.std.specs.Int.{w16}
use Rattle.std.proofs.Common.{SFits}
use Rattle.sizes.specs.Sizes.{fifo_capacity, num_channels}
use Rattle.version.specs.Versions.{has3ws8pna}
use Rattle.version.specs.declared.SguVersion.{SguVersion}
use Rattle.registers.specs.Control.{AcceptedRegisters, FitRegisters}
use Rattle.registers.specs.Pcm.{AcceptedPcm, FitPcm}
use Rattle.registers.specs.PlainQueue.{QuietQueue, FitEntries}
use Rattle.ticks.specs.Oscillators.{accepts_oscillator, FitOscillator}
use Rattle.plain_chip.specs.Voices.{PlainVoice}
use Rattle.plain_chip.specs.Chips.{ModelChip}
use Rattle.plain_chip.specs.Lists.{Every}

pub record Bytes (l : List ℕ) : Type 0 where
  pub each : (i : ℕ) → get_or l i 0 < 256

-- the session's fields in their ranges; a chip without a FIFO has nothing in its queues
pub record FitVoice (version : SguVersion) (v : PlainVoice) : Type 0 where
  pub registers : AcceptedRegisters v.registers version
  pub pcm : AcceptedPcm v.pcm
  pub oscillator : accepts_oscillator v.oscillator ≡ true
  pub fit_registers : FitRegisters v.registers
  pub fit_pcm : FitPcm v.pcm
  pub fit_oscillator : FitOscillator v.oscillator
  pub full : length v.queue.samples ≤ fifo_capacity
  pub samples : FitEntries v.queue.samples
  pub held : SFits w16 v.queue.held
  pub frames : v.queue.hold ≤ 65535
  pub tick : v.queue.sub ≤ 3
  pub latch : v.queue.latch < 256
  pub quiet : has3ws8pna version ≡ false → QuietQueue v.queue
  pub table : length v.wavetable ≡ 256
  pub bytes : Bytes v.wavetable

-- eight good voices over a RAM of bytes
pub record ChipOk {A : Type 0} (P : SguVersion → List ℕ → A → Type 0) (c : ModelChip A) : Type 0 where
  pub voices : Every (P c.version c.ram) c.voices
  pub eight : length c.voices ≡ num_channels
  pub bytes : Bytes c.ram
