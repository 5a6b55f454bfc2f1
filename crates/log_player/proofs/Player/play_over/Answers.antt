use mathlib.Core.Path.{sym, ap, ◌∙◌}
use Prim.Native.Nat.{ℕ}
use lib.ListN.{replicate}
use lib.IntN.{pos}
use Rattle.s3w2.specs.declared.Called.{Called}
use Rattle.log_player.specs.Worlds.{world}
use Rattle.log_player.proofs.Lines.{goes, sides-are, plays-lines}
use Rattle.log_player.proofs.Player.play_over.Goals as goal

pub hear-requires : goal.hear-requires
hear-requires c still =
    let a = c.args in
    let p = c.play-called in
    p.ensures.silent (sym c.rests-silent.ensures ∙ still) (goes a.kinds.now a.addresses.now a.values.now (world a.self a.ram.now a.queues.now) a.stems.now a.others.now a.left.now a.right.now c.requires.fact_1 c.requires.fact_2)
    ∙ ap (λ (n : ℕ). replicate n (pos 0)) (sym p.auto.others)

pub returns : goal.returns
returns c =
    let a = c.args in
    let z = c.requires.fact_2 in
    let w = world a.self a.ram.now a.queues.now in
    let p = c.play-called.ensures in
    let k = c.play-called.auto in
    let m = c.hear.ensures in
    let t = c.show.ensures in
    plays-lines a.kinds.now a.addresses.now a.values.now w a.stems.now a.others.now a.left.now a.right.now c.requires.fact_1 z _ _ _ _ _ _ _ _ a.out.now _
    (ap (λ (x : Called). x.chip) p.called) p.ram p.queues p.values
    (sides-are a.kinds.now a.addresses.now a.values.now w a.stems.now a.others.now a.left.now a.right.now c.requires.fact_1 z _ _ p.stems p.others 0 _ a.left.now z.lefts m.left)
    (sides-are a.kinds.now a.addresses.now a.values.now w a.stems.now a.others.now a.left.now a.right.now c.requires.fact_1 z _ _ p.stems p.others 1 _ a.right.now z.rights m.right)
    c.peak.ensures c.peak-2.ensures t.put t.bound k.ram k.queues p.ram_value
