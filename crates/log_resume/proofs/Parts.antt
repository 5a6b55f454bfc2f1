-- A log that is read in parts: no run of it is refused, so that the runs and the closing line print the log. Assumes nothing.
use mathlib.Core.Path.{◌≡◌, ap}
use mathlib.Core.List.{List, []}
use Prim.Native.Nat.{ℕ, ◌+◌, ◌≤◌, ◌<◌}
use lib.ListN.{length, get_or}
use Rattle.s3w2.specs.Answers.{Checked, number_of}
use Rattle.log_player.specs.Worlds.{World, fresh_world}
use Rattle.log_player.specs.Logs.{log_text}
use Rattle.log_player.specs.Runs.{refused_by}
use Rattle.log_player.specs.Parts.{parts_printed, joined}
use Rattle.log_player.proofs.Parted as parted
use Rattle.chip_calls.proofs.Accepting.{sound_none}
use Rattle.resume.proofs.Steps.{HeldMachine}
use Rattle.log_resume.specs.Cuts.{machine_of}
use Rattle.log_resume.proofs.Fresh.{fresh-held}
use Rattle.log_resume.proofs.Cuts.{held-line}

abbrev held : World → Type 0
held w = HeldMachine (machine_of w)

-- a world that lines can reach refuses nothing
pub not-refused : (w : World) → HeldMachine (machine_of w) → refused_by w ≡ 0
unfolding refused_by
not-refused w h = ap (λ (r : Checked). get_or (number_of r) 0 0) (sound_none w.player.chip w.ram w.queues h)

-- THE LOG IN PARTS: from a fresh player, an input in parts of any lengths prints its log
pub log-in-parts : (room : ℕ) → 16384 ≤ room → (parts : List (List ℕ)) → length (joined parts) + 1 < 18446744073709551615 → parts_printed room fresh_world 1 [] parts ≡ log_text (joined parts)
log-in-parts room large parts few = parted.log-in-parts room large held (λ w line h e. held-line line w h e) not-refused parts fresh-held few
