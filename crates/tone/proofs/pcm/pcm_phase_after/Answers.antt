use Rattle.std.proofs.Common.{refl, le-ltb, lt-ltb}
use Rattle.tone.specs.Pcm.{pcm_phase_after}
use Rattle.tone.proofs.pcm.pcm_phase_after.Goals as goal

pub returns-then-address-end : goal.returns-then-address-end
unfolding pcm_phase_after
returns-then-address-end c = let a = c.args in
    rw (lt-ltb a.address a.end c.if-address-end.true) refl

pub returns-then-loops : goal.returns-then-loops
unfolding pcm_phase_after
returns-then-loops c = let a = c.args in
    rw (le-ltb a.address a.end c.if-address-end.false, ← c.loops.ensures, c.if-loops.true) c.phase_from.ensures

pub returns : goal.returns
unfolding pcm_phase_after
returns c = let a = c.args in
    rw (le-ltb a.address a.end c.if-address-end.false, ← c.loops.ensures, c.if-loops.false) c.phase_from-2.ensures
