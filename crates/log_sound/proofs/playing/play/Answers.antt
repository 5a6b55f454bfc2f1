use borrow.Author.Rules.{rules}
use mathlib.Core.Path.{ap, ◌∙◌}
use Prim.Native.Nat.{ℕ, ◌/◌}
use Rattle.sizes.specs.Sizes.{stems_per_frame}
use Rattle.chip_lists.specs.Plays.{Playing}
use Rattle.log_sound.proofs.Played.{left_is, sounded-is, stems-are, others-are}
use Rattle.log_sound.proofs.playing.play.Goals as goal

pub returns : goal.returns
returns c =
    let a = c.args in
    let room = c.min.result / 16 in
    let g = c.gather-lines in
    let q = g.ensures in
    let enough = ap (λ (n : ℕ). n / stems_per_frame) c.min.ensures in
    let e = c.play-called.ensures in
    let left = left_is a.chip a.input.now a.from a.ram.now a.queues.now a.stems.now a.others.now room enough g.result _ _ _ q.result q.kinds q.addresses q.values in
    record {
      result = sounded-is a.chip a.input.now a.from a.ram.now a.queues.now a.stems.now a.others.now room enough g.result _ _ _ q.result q.kinds q.addresses q.values _ e.called;
      ram = e.ram ∙ ap (λ (x : Playing). x.ram) left;
      queues = e.queues ∙ ap (λ (x : Playing). x.queues) left;
      stems = stems-are a.chip a.input.now a.from a.ram.now a.queues.now a.stems.now a.others.now room enough g.result _ _ _ q.result q.kinds q.addresses q.values _ e.stems;
      others = others-are a.chip a.input.now a.from a.ram.now a.queues.now a.stems.now a.others.now room enough g.result _ _ _ q.result q.kinds q.addresses q.values _ e.others;
      bound = search rules;
    }
