use Rattle.std.proofs.Common.{◌+◌, ◌%◌, ◌^◌, refl, le-ltb, lt-ltb}
use Rattle.tone.specs.Pcm.{pcm_next}
use Rattle.tone.proofs.pcm.pcm_next.Goals as goal

pub returns-then-next-end-clause-result : goal.returns-then-next-end-clause-result
unfolding pcm_next
returns-then-next-end-clause-result c = let a = c.args in
    rw (c.mask_of-mask.ensures, lt-ltb ((a.address + 1) % 2 ^ 64) a.end c.if-next-end.true)
    (refl)

pub returns-then-loops-clause-result : goal.returns-then-loops-clause-result
unfolding pcm_next
returns-then-loops-clause-result c = let a = c.args in
    rw (c.mask_of-mask.ensures, le-ltb ((a.address + 1) % 2 ^ 64) a.end c.if-next-end.false, ← c.loops.ensures, c.if-loops.true)
    (refl)

pub returns-clause-result : goal.returns-clause-result
unfolding pcm_next
returns-clause-result c = let a = c.args in
    rw (le-ltb ((a.address + 1) % 2 ^ 64) a.end c.if-next-end.false, ← c.loops.ensures, c.if-loops.false)
    (refl)
