-- The ranges of a channel and of its queue's entries are kept by every write and read. Assumes nothing.
use mathlib.Core.Path.{◌≡◌, refl}
use mathlib.Core.List.{List, []}
use Prim.Native.Nat.{ℕ, zero, suc, ◌+◌, ◌*◌, ◌<◌}
use native.Mathlib.Omega.{arith}
use lib.Dec.{eqb, leb}
use lib.IntN.{ℤ, pos}
use lib.ListN.{length, get_or, replicate}
use mir.Syntax.{w16}
use mir.Val.{SFits}
use mir.Facts.{sfits_to_z}
use Rattle.num.proofs.Choice.{cond-by}
use Rattle.num.proofs.Integers.{fit}
use Rattle.version.specs.Versions.{has3ws8pna, has_sample_control}
use Rattle.version.specs.declared.SguVersion.{SguVersion}
use Rattle.registers.specs.Queue.{default_fifo, FitFifo}
use Rattle.registers.specs.PlainQueue.{FitEntries}
use Rattle.registers.proofs.Ranges.{write-fits, waveform-fits, write-pcm-fits, pushed-fits, push-entries-fit}
use Rattle.registers.proofs.Ring.{length-pushed}
use Rattle.ticks.proofs.Ranges.{default-fits}
use Rattle.voice.specs.Channel.{default_channel, set_channel_version}
use Rattle.voice.specs.Kinds.{sample_of}
use Rattle.voice.specs.Writes.{waveform_written, restarted, latch_written, sample_written, sample_entries, sample_control_written, write_control, write_control_entries, write_pcm_reg}
use Rattle.voice.specs.Reads.{after_read}
use Rattle.voice.specs.declared.Channel.{Channel}
use Rattle.slots.specs.Good.{FitChannel}

-- ---- a fresh channel
pub default-fifo-fits : FitFifo default_fifo
default-fifo-fits = record { sample = fit w16 _ (omega arith) (omega arith); byte = omega arith }

pub default-channel-fits : FitChannel default_channel
default-channel-fits = record {
  registers = record { frequency = omega arith; volume = omega arith; panpot = omega arith; param1 = omega arith; param2 = omega arith };
  pcm = record { control = omega arith };
  oscillator = default-fits;
  fifo = default-fifo-fits;
}

pub entries-replicate : (n : ℕ) → FitEntries (replicate n (pos 0))
entries-replicate n = record { each = go n }
  where
    go : (n i : ℕ) → SFits w16 (get_or (replicate n (pos 0)) i (pos 0))
    go zero i = fit w16 _ (omega arith) (omega arith)
    go (suc n) zero = fit w16 _ (omega arith) (omega arith)
    go (suc n) (suc i) = go n i

-- ---- writes and reads
module _ (c : Channel) (f : FitChannel c) where
  pub version-fits : (version : SguVersion) → FitChannel (set_channel_version c version)
  unfolding set_channel_version
  version-fits version = record { registers = waveform-fits c.registers _ f.registers; pcm = f.pcm; oscillator = f.oscillator; fifo = default-fifo-fits }

  module _ (version : SguVersion) (value : ℕ) (h : value < 256) where
    waveform : FitChannel (waveform_written version c value)
    unfolding waveform_written
    waveform = record { registers = waveform-fits c.registers _ f.registers; pcm = f.pcm; oscillator = f.oscillator; fifo = f.fifo }

    restart : FitChannel (restarted c)
    unfolding restarted
    restart = record { registers = f.registers; pcm = f.pcm; oscillator = record { phase = omega arith; lfsr = omega arith; last = f.oscillator.last }; fifo = default-fifo-fits }

    latch : FitChannel (latch_written version c value)
    unfolding latch_written
    latch =
        cond-by FitChannel (has3ws8pna version) _ _
        (λ e. record { registers = f.registers; pcm = f.pcm; oscillator = f.oscillator; fifo = record { sample = f.fifo.sample; byte = h } })
        (λ e. f)

    sample : FitChannel (sample_written version c)
    unfolding sample_written
    sample =
        cond-by FitChannel (has3ws8pna version) _ _
        (λ e. record { registers = f.registers; pcm = f.pcm; oscillator = f.oscillator; fifo = pushed-fits c.fifo [] f.fifo })
        (λ e. f)

    sample-control : FitChannel (sample_control_written version c value)
    unfolding sample_control_written
    sample-control =
        cond-by FitChannel (has_sample_control version) _ _
        (λ e. record { registers = f.registers; pcm = record { control = f.pcm.control }; oscillator = f.oscillator; fifo = f.fifo })
        (λ e. f)

    pub write-control-fits : (offset : ℕ) → FitChannel (write_control version c offset value)
    unfolding write_control
    write-control-fits offset =
        cond-by FitChannel (eqb offset 2) _ _ (λ e. waveform)
        (λ e. cond-by FitChannel (eqb offset 10) _ _ (λ e. restart)
        (λ e. cond-by FitChannel (eqb offset 12) _ _ (λ e. latch)
        (λ e. cond-by FitChannel (eqb offset 13) _ _ (λ e. sample)
        (λ e. cond-by FitChannel (eqb offset 26) _ _ (λ e. sample-control)
        (λ e. record { registers = write-fits c.registers offset value h f.registers; pcm = f.pcm; oscillator = f.oscillator; fifo = f.fifo })))))

    sample-fits : SFits w16 (sample_of c.fifo.latch value)
    sample-fits = sfits_to_z {n = c.fifo.latch * 256 + value} (record { fits = omega (arith, f.fifo.byte) })

    pub write-entries-fit : (q : List ℤ) (offset : ℕ) → FitEntries q → FitEntries (write_control_entries version c q offset value)
    unfolding write_control_entries sample_entries
    write-entries-fit q offset e =
        cond-by FitEntries (eqb offset 13) _ _
        (λ a. cond-by FitEntries (has3ws8pna version) _ _ (λ b. push-entries-fit c.fifo q (sample_of c.fifo.latch value) sample-fits e) (λ b. e)) (λ a. e)

  pub write-pcm-reg-fits : (offset value : ℕ) → value < 256 → FitChannel (write_pcm_reg c offset value)
  unfolding write_pcm_reg
  write-pcm-reg-fits offset value h =
      let p = write-pcm-fits c.pcm offset value h f.pcm in
      cond-by FitChannel (leb offset 9) _ _ (λ e. record { registers = f.registers; pcm = p; oscillator = f.oscillator; fifo = f.fifo })
      (λ e. record { registers = f.registers; pcm = p; oscillator = f.oscillator; fifo = f.fifo })

  pub after-read-fits : (offset : ℕ) → FitChannel (after_read c offset)
  unfolding after_read
  after-read-fits offset =
      cond-by FitChannel (eqb offset 10) _ _
      (λ e. record { registers = f.registers; pcm = f.pcm; oscillator = record { phase = omega arith; lfsr = f.oscillator.lfsr; last = f.oscillator.last }; fifo = f.fifo }) (λ e. f)

pub length-entries : (version : SguVersion) (c : Channel) (q : List ℤ) (offset value : ℕ) → length (write_control_entries version c q offset value) ≡ length q
unfolding write_control_entries sample_entries
length-entries version c q offset value =
    cond-by same (eqb offset 13) _ _ (λ a. cond-by same (has3ws8pna version) _ _ (λ b. length-pushed c.fifo q (sample_of c.fifo.latch value)) (λ b. refl)) (λ a. refl)
  where
    same : List ℤ → Type 0
    same l = length l ≡ length q
