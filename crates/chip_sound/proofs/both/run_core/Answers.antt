use mathlib.Core.Path.{ap, ◌∙◌}
use mathlib.Core.List.{List}
use Prim.Native.Nat.{◌/◌}
use native.Mathlib.Omega.{arith}
use lib.IntN.{ℤ}
use lib.ListN.{length}
use lib.Seq.{sets}
use Rattle.frames.specs.Turning.{Turns, run_of}
use Rattle.s3w2.specs.Chips.{core_queues}
use Rattle.chip_sound.proofs.Runs.{run-none}
use Rattle.s3w2.proofs.Queues.{lent_is}
use Rattle.chip_sound.proofs.both.run_core.Goals as goal

pub returns-then-stems-eq0-clause-result : goal.returns-then-stems-eq0-clause-result
returns-then-stems-eq0-clause-result c =
    let a = c.args in
    let none = run-none a.version a.ram.now (core_queues a.k a.queues.now) a.core (length a.stems.now) c.if-stems-eq0.true in
    (ap (λ (t : Turns). t.core) none)

pub returns-then-stems-eq0-clause-stems : goal.returns-then-stems-eq0-clause-stems
returns-then-stems-eq0-clause-stems c =
    let a = c.args in
    let none = run-none a.version a.ram.now (core_queues a.k a.queues.now) a.core (length a.stems.now) c.if-stems-eq0.true in
    (ap (λ (t : Turns). sets a.stems.now 0 t.stems) none)

pub returns-clause-result : goal.returns-clause-result
returns-clause-result c =
    let a = c.args in
    let r = c.run in
    let its = lent_is a.queues.now a.k (omega (arith, c.requires.0)) c.requires.1 in
    let run : List ℤ → Turns = λ q. run_of a.version a.ram.now q 0 4 (length a.stems.now / 2) a.core in (r.ensures.result ∙ ap (λ (q : List ℤ). (run q).core) its)

pub returns-clause-stems : goal.returns-clause-stems
returns-clause-stems c =
    let a = c.args in
    let r = c.run in
    let its = lent_is a.queues.now a.k (omega (arith, c.requires.0)) c.requires.1 in
    let run : List ℤ → Turns = λ q. run_of a.version a.ram.now q 0 4 (length a.stems.now / 2) a.core in (r.ensures.stems ∙ ap (λ (q : List ℤ). sets a.stems.now 0 (run q).stems) its)
