use mathlib.Core.Path.{◌≡◌}
use mathlib.Core.Bool.{false}
use Rattle.ticks.specs.declared.Oscillator.{Oscillator}
use Rattle.ticks.specs.declared.Target.{Target}
use Rattle.ticks.specs.declared.Ticked.{Ticked}
use Rattle.ticks.specs.Sounds.{Tick, ticks_of}
use Rattle.ticks.proofs.Sound.ticked.Given as goal

abbrev pub invariant-loop-k : goal.invariant-loop-k
invariant-loop-k g l =
    (wanted : Tick) (t : Target) → ((o : Oscillator) (r : Ticked) → goal.F-post g l.tick o r → r ≡ wanted t o)
    → l.v ≡ ticks_of l.k wanted l.s false t l.initial.v
