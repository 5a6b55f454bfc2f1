use mathlib.Core.Path.{◌≡◌}
use Prim.Native.Nat.{◌-◌}
use lib.ListN.{length}
use Rattle.chip_sound.proofs.Mixes.{Mixing}
use Rattle.chip_sound.proofs.mixing.mix.Given as goal

abbrev pub invariant-loop-at : goal.invariant-loop-at
invariant-loop-at g l =
    let m = g.T.SideNumber in
    Mixing m.silent m.plus l.ram l.initial.queues l.sounds l.chip l.initial.left l.initial.right l.n l.at l.first l.second l.left l.right × (length l.stems ≡ 4096) × (length l.others ≡ 4096) × (l.queues ≡ l.initial.queues)

abbrev pub decreases-loop-at : goal.decreases-loop-at
decreases-loop-at g l = l.n - l.at
