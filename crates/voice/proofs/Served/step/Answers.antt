use Rattle.std.proofs.Common.{refl, w32}
use borrow.Author.Rules.{sfits_of}
use Rattle.num.proofs.Integers.{back}
use Rattle.voice.proofs.ServedTicks.{served}
use Rattle.voice.proofs.Served.step.Goals as goal

pub returns : goal.returns
returns c =
    let a = c.args in
    let v = c.value-q8 in
    let q = back w32 v.result (sfits_of v.type_inv) in
    rw q
    (served a.w a.samples.now a.base a.p a.g.volume a.g.panpot a.self _ _ _ _ _ _ c.whole.ensures.result c.fraction.ensures v.ensures (rw q at c.with_stream_value-sides.ensures) refl c.stepped.ensures)
