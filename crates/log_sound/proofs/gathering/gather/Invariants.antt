use Rattle.log_sound.specs.Gathering.{gathering, gathered, list_from}
use Prim.Native.Nat.{◌-◌, ◌≤◌}
use mathlib.Core.Path.{◌≡◌}
use Rattle.log_sound.proofs.gathering.gather.Given as goal

abbrev pub invariant-loop-count : goal.invariant-loop-count
invariant-loop-count l =
    (l.count ≤ 256) × (l.frames ≤ l.room) × (gathered l.input l.room (256 - l.count) (gathering l.count l.frames l.place l.kinds l.addresses l.values) ≡ list_from l.input l.room l.from l.initial.kinds l.initial.addresses l.initial.values)
