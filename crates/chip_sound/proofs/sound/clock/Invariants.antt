use mathlib.Core.Path.{◌≡◌}
use Prim.Native.Nat.{◌-◌}
use lib.ListN.{length}
use Rattle.chip_sound.proofs.Clocks.{Clocking}
use Rattle.chip_sound.proofs.sound.clock.Given as goal

abbrev pub invariant-loop-done : goal.invariant-loop-done
invariant-loop-done l =
    Clocking l.ram l.initial.queues l.sounds l.chip l.initial.stems l.frames l.done l.one l.two l.stems l.second × (length l.first ≡ 4096) × (length l.second ≡ 4096) × (l.queues ≡ l.initial.queues)

abbrev pub decreases-loop-done : goal.decreases-loop-done
decreases-loop-done l = l.frames - l.done
