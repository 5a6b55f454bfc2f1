-- One voice's tick, and frames of stems. The queue buffer is only read. A core that the version lacks is silent and is not ticked.
use Rattle.std.specs.Prelude.{Ok, Bool, false, cond, ◌&&◌, List, ℕ, ◌+◌, ◌*◌, ltb, ℤ, pos, length, replicate}
use Rattle.sizes.specs.Sizes.{num_channels, stems_per_frame}
use Rattle.cores.specs.Stems.{paired}
use Rattle.version.specs.Versions.{core_count}
use Rattle.voices.specs.declared.Core.{Core}
use Rattle.ticks.specs.Mix.{silence}
use Rattle.frames.specs.Ticking.{voiced}
use Rattle.frames.specs.Turning.{Turns, turned, frames}
use Rattle.frame_reports.specs.Ending.{tick_ends, frames_ended}
use Rattle.s3w2.specs.declared.Chip.{Chip}
use Rattle.s3w2.specs.declared.Called.{Called}
use Rattle.s3w2.specs.declared.Returned.TheVariants.{Sample, Ended}
use Rattle.s3w2.specs.Answers.{unless, answered, called}
use Rattle.s3w2.specs.Refusals.{sound_refusal, clock_refusal}
use Rattle.s3w2.specs.Chips.{core_at, with_core_at, with_cores, core_queues}

-- ---- a tick of one voice of core k; a channel above 7 gives 0, and so does a core that is not there
abbrev pub one_tick : Chip → List ℕ → List ℤ → ℕ → ℕ → Turns
one_tick chip ram queues k ch = turned chip.version ram (core_queues k queues) ch 1 1 (core_at chip k)

-- whether it turns the voice off
abbrev pub one_tick_ends : Chip → List ℕ → List ℤ → ℕ → ℕ → Bool
one_tick_ends chip ram queues k ch = tick_ends chip.version ram (core_queues k queues) ch (voiced (core_at chip k) silence)

unfoldable pub generate_sample_called : Chip → List ℕ → List ℤ → ℕ → ℕ → Called
generate_sample_called chip ram queues k ch =
    called (sound_refusal chip (length ram) (length queues)) chip
    (cond (ltb k (core_count chip.version) && ltb ch num_channels)
    (answered (with_core_at chip k (one_tick chip ram queues k ch).core) (Ok (Sample (one_tick chip ram queues k ch).sample (one_tick_ends chip ram queues k ch))))
    (answered chip (Ok (Sample (pos 0) false))))

-- ---- n frames of core k
abbrev pub silent_turns : ℕ → Core → Turns
silent_turns n core = record { core = core; stems = replicate (stems_per_frame * n) (pos 0); sample = pos 0 }

module _ (chip : Chip) (ram : List ℕ) (queues : List ℤ) (n : ℕ) where
  abbrev pub core_frames : ℕ → Turns
  core_frames k = cond (ltb k (core_count chip.version)) (frames chip.version ram (core_queues k queues) n (core_at chip k)) (silent_turns n (core_at chip k))

  -- the voices of core k that they turn off
  abbrev pub core_ended : ℕ → ℕ
  core_ended k = cond (ltb k (core_count chip.version)) (frames_ended chip.version ram (core_queues k queues) n (core_at chip k)) 0

  -- both cores after them; the voices that they turn off: bit 8 k + ch for channel ch of core k
  abbrev pub framed : Chip
  framed = with_cores chip (core_frames 0).core (core_frames 1).core

  abbrev pub framed_ended : ℕ
  framed_ended = core_ended 0 + 256 * core_ended 1

-- `stems` is the stem buffer, or its length
unfoldable pub clock_called : Chip → List ℕ → List ℤ → ℕ → ℕ → Called
clock_called chip ram queues n stems =
    called (clock_refusal chip (length ram) (length queues) n stems) chip (answered (framed chip ram queues n) (Ok (Ended (framed_ended chip ram queues n))))

unfoldable pub clock_stems : Chip → List ℕ → List ℤ → ℕ → List ℤ → List ℤ
clock_stems chip ram queues n stems =
    unless (clock_refusal chip (length ram) (length queues) n (length stems)) stems
    (paired n (core_frames chip ram queues n 0).stems (core_frames chip ram queues n 1).stems)
