use mathlib.Core.Path.{◌≡◌}
use Prim.Native.Nat.{◌*◌}
use Rattle.ticks.specs.declared.Oscillator.{Oscillator}
use Rattle.ticks.specs.declared.Target.{Target}
use Rattle.ticks.specs.declared.Ticked.{Ticked}
use Rattle.ticks.specs.Sounds.{Tick, ticks_of}
use Rattle.ticks.proofs.Sound.modulated.Given as goal

abbrev pub invariant-loop-k : goal.invariant-loop-k
invariant-loop-k g l =
    (wanted : Tick) → ((o : Oscillator) (u : Target) (r : Ticked) → goal.F-post g l.tick o u r → r ≡ wanted u o)
    → l.v ≡ ticks_of (l.k * l.each) wanted l.s l.own l.t l.initial.v
