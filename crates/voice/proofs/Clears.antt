-- What a read and a write at offset 10 clear, and what they leave. Assumes nothing.
use Rattle.std.proofs.Common.{◌≡◌, ℕ, ◌≤◌, eqb, refl, le-leb}
use Rattle.num.proofs.Choice.{cond-by}
use Rattle.registers.specs.Queue.{default_fifo}
use Rattle.version.specs.declared.SguVersion.{SguVersion}
use Rattle.stream.specs.Cache.{emptied}
use Rattle.voice.specs.Writes.{restarted, write_control, write_pcm_reg}
use Rattle.voice.specs.Reads.{after_read}
use Rattle.voice.specs.Channel.{set_channel_version}
use Rattle.voice.specs.declared.Channel.{Channel}

module _ (c : Channel) where
  -- no read clears the slew, the queue or the noise
  pub record Left (r : Channel) : Type 0 where
    pub slew : r.oscillator.slew_current ≡ c.oscillator.slew_current
    pub noise : r.oscillator.lfsr_state ≡ c.oscillator.lfsr_state
    pub queue : r.fifo ≡ c.fifo

  pub read-leaves : (offset : ℕ) → Left (after_read c offset)
  unfolding after_read
  read-leaves offset = cond-by Left (eqb offset 10) _ _ (λ e. record { slew = refl; noise = refl; queue = refl }) (λ e. record { slew = refl; noise = refl; queue = refl })

  pub read-clears : ((after_read c 10).oscillator.phase ≡ 0) × ((after_read c 10).stream ≡ emptied)
  unfolding after_read
  read-clears = (refl, refl)

  module _ (version : SguVersion) (value : ℕ) where
    pub write-clears : ((write_control version c 10 value).oscillator.phase ≡ 0) × ((write_control version c 10 value).oscillator.slew_current ≡ 0) × ((write_control version c 10 value).oscillator.lfsr_state ≡ 315916348) × ((write_control version c 10 value).fifo ≡ default_fifo) × ((write_control version c 10 value).stream ≡ emptied)
    unfolding write_control restarted
    write-clears = (refl, refl, refl, refl, refl)

    pub write-leaves : ((write_control version c 10 value).oscillator.old_phase ≡ c.oscillator.old_phase) × ((write_control version c 10 value).oscillator.last_sample ≡ c.oscillator.last_sample)
    unfolding write_control restarted
    write-leaves = (refl, refl)

  pub pcm-write-empties : (offset value : ℕ) → offset ≤ 9 → (write_pcm_reg c offset value).stream ≡ emptied
  unfolding write_pcm_reg
  pcm-write-empties offset value h = rw (le-leb offset 9 h)

  pub version-empties : (version : SguVersion) → ((set_channel_version c version).fifo ≡ default_fifo) × ((set_channel_version c version).stream ≡ emptied)
  unfolding set_channel_version
  version-empties version = (refl, refl)
