use Rattle.std.specs.Prelude.{is_ok}
use mathlib.Core.Path.{ap, sym, ◌∙◌}
use Rattle.chip_lists.specs.Plays.{playing}
use Rattle.chip_lists.proofs.Alone.{restless}
use Rattle.chip_lists.proofs.Listed.{lends, turned-away, played}
use Rattle.chip_lists.proofs.play.Goals as goal

pub returns-in-Err : goal.returns-in-Err
returns-in-Err c =
    let a = c.args in
    let f = c.fills-enough in
    let r = c.refusal_of_list in
    let h = turned-away a.kinds.now a.addresses.now (playing a.chip a.ram.now a.queues.now a.values.now a.stems.now a.others.now) r.result f.result f.ensures r.ensures _ c.in-Err.is _ c.answers.ensures in
    record { called = h.called_is; ram = h.ram-is; queues = h.queues-is; values = h.values-is; stems = h.stems-is; others = h.others-is; ram_value = h.accepted; silent = h.silent }

pub play_each-after-requires : goal.play_each-after-requires
play_each-after-requires c =
    let a = c.args in
    let f = c.fills-enough in
    let r = c.refusal_of_list in
    lends a.kinds.now a.addresses.now (playing a.chip a.ram.now a.queues.now a.values.now a.stems.now a.others.now) r.result f.result f.ensures r.ensures (ap is_ok c.in_default.is)

pub returns : goal.returns
returns c =
    let a = c.args in
    let f = c.fills-enough in
    let r = c.refusal_of_list in
    let p = c.play_each-after in
    let done = ap is_ok c.in_default.is in
    let g = lends a.kinds.now a.addresses.now (playing a.chip a.ram.now a.queues.now a.values.now a.stems.now a.others.now) r.result f.result f.ensures r.ensures done in
    let apart = sym c.is_alone.ensures ∙ c.if-is_alone.false in
    let h = played a.kinds.now a.addresses.now (playing a.chip a.ram.now a.queues.now a.values.now a.stems.now a.others.now) r.result f.result f.ensures r.ensures done _ _ _ _ _ _ _ c.answers-2.ensures p.ensures p.auto.ram (λ z. restless a.kinds.now a.addresses.now (playing a.chip a.ram.now a.queues.now a.values.now a.stems.now a.others.now) g apart z) in
    record { called = h.called_is; ram = h.ram-is; queues = h.queues-is; values = h.values-is; stems = h.stems-is; others = h.others-is; ram_value = h.accepted; silent = h.silent }
