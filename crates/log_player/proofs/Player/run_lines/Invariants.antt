use mathlib.Core.Path.{◌≡◌}
use mathlib.Core.List.{[]}
use Prim.Native.Nat.{◌-◌, ◌^◌}
use lib.ListN.{length}
use Rattle.log_player.specs.Worlds.{world}
use Rattle.log_player.specs.Runs.{spot, run_from, refused_by}
use Rattle.log_player.proofs.Running.{Running}
use Rattle.log_player.proofs.Player.run_lines.Given as goal

abbrev pub invariant-loop-ram : goal.invariant-loop-ram
invariant-loop-ram l =
    (length l.ram ≡ length l.initial.ram) × (length l.queues ≡ length l.initial.queues) × (refused_by (world l.player l.ram l.queues) ≡ 0) × Running l.input (run_from (length l.initial.text.buffer.now) l.input (spot (world l.initial.player l.initial.ram l.initial.queues) l.number l.from [])) (world l.player l.ram l.queues) l.line l.place l.initial.text l.text

abbrev pub decreases-loop-ram : goal.decreases-loop-ram
decreases-loop-ram l =
    2 ^ 64 - l.line
