-- Turns of a core, and whether core 1 has any.
use Rattle.std.specs.Prelude.{Bool, ◌&&◌, not, List, ℕ, ◌/◌, ltb, ℤ}
use Rattle.sizes.specs.Sizes.{ticks_per_frame}
use Rattle.version.specs.declared.SguVersion.{SguVersion}
use Rattle.version.specs.Versions.{core_count}
use Rattle.voices.specs.declared.Core.{Core}
use Rattle.frames.specs.Turning.{Turns, run_of}
use Rattle.rest.specs.Rest.{rests}
use Rattle.s3w2.specs.declared.Chip.{Chip}
use Rattle.s3w2.specs.Chips.{core_at, core_queues}

-- whether core 1 has to be ticked: the version has it, and it is not at rest
unfoldable pub second_sounds : Chip → Bool
second_sounds chip = ltb 1 (core_count chip.version) && not (rests (core_at chip 1))

-- turns of core k, as many as a stem buffer of a length has room for
abbrev pub ran_of : SguVersion → List ℕ → List ℤ → ℕ → ℕ → Core → Turns
ran_of version ram queues k stems core = run_of version ram (core_queues k queues) 0 ticks_per_frame (stems / 2) core
