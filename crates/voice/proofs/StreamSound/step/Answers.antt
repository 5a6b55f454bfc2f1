use Rattle.std.proofs.Common.{w32, SFits, arith}
use Rattle.num.proofs.Integers.{back}
use Rattle.voice.proofs.StreamTicks.{ticked, ended}
use Rattle.voice.proofs.StreamSound.step.Goals as goal

pub returns-then-v : goal.returns-then-v
returns-then-v c =
    let a = c.args in
    let t = c.generate_sqv4_sample-voice in
    let q : SFits w32 t.result.q8 = record { sfits = omega arith } in
    ticked a.ram.now a.p a.g.volume a.g.panpot a.self a.samples.now _ _ _ c.if-v.true t.ensures.result t.ensures.samples (rw (back w32 _ q) at c.with_stream_value-sides.ensures)

pub returns : goal.returns
returns c =
    let a = c.args in
    ended a.ram.now a.p a.g.volume a.g.panpot a.self a.samples.now c.if-v.false
