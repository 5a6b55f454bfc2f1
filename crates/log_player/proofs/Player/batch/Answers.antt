use mathlib.Core.Path.{refl}
use native.Mathlib.Omega.{arith}
use Rattle.log_player.specs.Worlds.{world}
use Rattle.log_player.proofs.Batching.{batch-none, batch-some, lent-list}
use Rattle.log_player.proofs.Player.batch.Goals as goal

pub returns-then-n-eq0 : goal.returns-then-n-eq0
returns-then-n-eq0 c =
    let a = c.args in
    let g = c.gather-found.ensures in
    batch-none a.input.now (world a.self a.ram.now a.queues.now) a.number a.from a.out.now c.requires.fact_1 c.requires.fact_2.1 (g.stops c.if-n-eq0.true)

pub play_list-player-requires-clause-fact : goal.play_list-player-requires-clause-fact
play_list-player-requires-clause-fact c =
    let g = c.gather-found in
    let e = g.ensures in
    let l = c.min-most.ensures in
    let k = g.auto in
    (c.requires.fact_1, lent-list _ _ _ _ _ (omega (arith, e.bound, l, k.kinds)) (omega (arith, e.bound, l, k.addresses)) (omega (arith, e.bound, l, k.values)) e.frames (omega (arith, e.frames, e.gathers.few)))

pub returns : goal.returns
returns c =
    let a = c.args in
    let f = c.gather-found in
    let g = f.ensures in
    let l = c.min-most.ensures in
    batch-some a.input.now (world a.self a.ram.now a.queues.now) _ a.number a.from _ _ _ a.out.now _ _ _ _ g.gathers c.if-n-eq0.false (omega (arith, g.bound, l, f.auto.kinds)) (omega (arith, g.bound, l, c.requires.fact_2.0)) c.requires.fact_2.1 refl c.play_list-player.ensures
