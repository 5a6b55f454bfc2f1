use mathlib.Core.Path.{sym, ap, ◌∙◌}
use mathlib.Core.List.{List}
use lib.IntN.{ℤ, pos}
use lib.ListN.{length}
use Rattle.sides.specs.Sides.{frames_in, wrapping, added_to}
use Rattle.sides.proofs.Frames.{added-silent}
use Rattle.log_player.proofs.batches.hear.Goals as goal

pub returns-then-silent-clause-left : goal.returns-then-silent-clause-left
returns-then-silent-clause-left c =
    let a = c.args in
    let zeros = c.requires c.if-silent.true in
    let n = frames_in (length a.stems.now) (length a.left.now) (length a.right.now) 0 in
    let m = c.add.ensures in (m.left ∙ sym (ap (λ (o : List ℤ). added_to wrapping n a.stems.now o 0 0 a.left.now) zeros ∙ added-silent (pos 0) wrapping a.stems.now 0 0 a.left.now n (length a.others.now)))

pub returns-then-silent-clause-right : goal.returns-then-silent-clause-right
returns-then-silent-clause-right c =
    let a = c.args in
    let zeros = c.requires c.if-silent.true in
    let n = frames_in (length a.stems.now) (length a.left.now) (length a.right.now) 0 in
    let m = c.add.ensures in (m.right ∙ sym (ap (λ (o : List ℤ). added_to wrapping n a.stems.now o 1 0 a.right.now) zeros ∙ added-silent (pos 0) wrapping a.stems.now 1 0 a.right.now n (length a.others.now)))
