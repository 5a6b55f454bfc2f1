-- The chip with which a log begins, and the one that a state is read into. Assumes nothing.
use mathlib.Core.Path.{◌≡◌, refl}
use mathlib.Core.Bool.{true}
use Prim.Native.Nat.{ℕ, zero, suc, ◌<◌}
use native.Mathlib.Omega.{arith}
use lib.IntN.{ℤ, pos}
use lib.ListN.{length, replicate, length-replicate}
use Rattle.sizes.specs.Sizes.{wavetables_size}
use Rattle.cores.specs.Sizes.{num_cores, chip_queues}
use Rattle.tone.specs.Pcm.{is_ram_length}
use Rattle.version.specs.declared.SguVersion.TheVariants.{V3_1}
use Rattle.registers.specs.PlainQueue.{FitEntries}
use Rattle.voices.specs.Core.{fresh_core}
use Rattle.voices.proofs.Voices.{fresh-sized}
use Rattle.s3w2.specs.Chips.{fresh_chip, core_at}
use Rattle.s3w2.specs.Fresh.{made_called}
use Rattle.s3w2.proofs.Kept.{made_kept}
use Rattle.plain_chip.proofs.Lists.{bytes-replicate}
use Rattle.slots.proofs.Fits.{entries-replicate}
use Rattle.log_player.specs.Worlds.{fresh_world}
use Rattle.chip_calls.specs.Ties.{Machine, GoodMachine, TypedCore, Typed}
use Rattle.chip_calls.proofs.Accepting.{core-good}
use Rattle.chip_calls.proofs.Made.{made_held}
use Rattle.resume.specs.Stops.{Second}
use Rattle.resume.proofs.Steps.{HeldMachine}
use Rattle.log_resume.specs.Cuts.{machine_of, fresh}

zeros-fit : FitEntries (replicate chip_queues (pos 0))
zeros-fit = entries-replicate chip_queues

allowed : is_ram_length 65536 ≡ true
unfolding is_ram_length
allowed = refl

held : GoodMachine (fresh_chip V3_1) (replicate 65536 0) (replicate chip_queues (pos 0))
held = made_held V3_1 65536 (replicate chip_queues (pos 0)) (length-replicate {A = ℤ} chip_queues (pos 0)) allowed zeros-fit

pub fresh-held : HeldMachine (machine_of fresh_world)
unfolding made_called
fresh-held = held

typed-core : TypedCore fresh_core
typed-core = record {
  sized = fresh-sized;
  fits = λ j h. (core-good (fresh_chip V3_1) (replicate 65536 0) (replicate chip_queues (pos 0)) held 0 (omega arith) j h).fits;
  bytes = bytes-replicate wavetables_size 128 (omega arith);
}

typed-cores : (k : ℕ) → k < num_cores → TypedCore (core_at (fresh_chip V3_1) k)
typed-cores zero h = typed-core
typed-cores (suc zero) h = typed-core
typed-cores (suc (suc k)) h = absurd (omega arith)

fresh-typed : Typed (fresh_chip V3_1) (replicate chip_queues (pos 0))
fresh-typed = record { two = refl; cores = typed-cores; entries = zeros-fit }

pub fresh-second : (m : Machine) → HeldMachine m → Second m (fresh m.ram)
unfolding made_called
fresh-second m h = record {
  accepted = made_kept 65536 V3_1 (length m.ram);
  typed = fresh-typed;
  long = length-replicate {A = ℤ} chip_queues (pos 0);
  copy = refl;
}
