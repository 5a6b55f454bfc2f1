use mathlib.Core.Path.{◌≡◌, refl, ap, ◌∙◌}
use native.Mathlib.Omega.{arith}
use Prim.Native.Nat.{◌+◌, ◌-◌}
use lib.IntN.{ℤ}
use mir.Syntax.{w16}
use mir.Val.{to_z, of_z}
use Rattle.num.proofs.Integers.{back}
use Rattle.sqv4_writer.specs.Choice.{nearest_of, distance_of, code_for, last_code}
use Rattle.sqv4_writer.proofs.Nearest.{nearer, not-nearer, codes-more}
use Rattle.sqv4_writer.proofs.choice.nearest_code.Goals as goal
use Rattle.sqv4_writer.proofs.choice.nearest_code.Goals.{then-far-least, else-far-least}

pub loop-code-init : goal.loop-code-init
unfolding nearest_of
loop-code-init c = (refl, c.distance-least.ensures)

pub loop-code-preserved : goal.loop-code-preserved
loop-code-preserved c =
    let l = c.loop-code in
    let a = c.args in
    let v = l.invariant in
    let far = distance_of a.variant a.volume a.state (to_z w16 (of_z w16 a.sample)) in
    let on : l.code ≡ l.code + 1 - 1 = omega arith in elim c.if-far-least.branch [
      | then-far-least w ↦
          rw (w.best-is, w.least-is)
          (nearer far l.best l.least _ v.1 l.code l.auto.code v.0 c.distance-far.ensures w.if-far-least.true ∙ ap (nearest_of far) on, c.distance-far.ensures)
      | else-far-least w ↦
          rw (w.best-is, w.least-is)
          (not-nearer far l.best l.least _ v.1 l.code l.auto.code v.0 c.distance-far.ensures w.if-far-least.false ∙ ap (nearest_of far) on, v.1)
    ]

pub returns-after-far-least : goal.returns-after-far-least
unfolding code_for
returns-after-far-least c =
    let l = c.loop-code in
    let a = c.args in
    let v = l.invariant in
    let far = distance_of a.variant a.volume a.state (to_z w16 (of_z w16 a.sample)) in
    let all : l.code ≡ last_code a.variant = omega (arith, c.last_code-last.ensures, c.loop-code-test.true) in
    let is : c.if-far-least.best ≡ nearest_of far l.code = elim c.if-far-least.branch [
      | then-far-least w ↦ rw w.best-is (nearer far l.best l.least _ v.1 l.code l.auto.code v.0 c.distance-far.ensures w.if-far-least.true)
      | else-far-least w ↦ rw w.best-is (not-nearer far l.best l.least _ v.1 l.code l.auto.code v.0 c.distance-far.ensures w.if-far-least.false)
    ] in
    is ∙ ap (nearest_of far) all
    ∙ ap (λ (z : ℤ). nearest_of (distance_of a.variant a.volume a.state z) (last_code a.variant)) (back w16 _ c.ranges.sample)

pub returns : goal.returns
returns c =
    absurd (omega (arith, codes-more c.args.variant, c.last_code-last.ensures, c.loop-code-test.false, c.loop-code.auto.code-end (omega (arith, codes-more c.args.variant, c.last_code-last.ensures))))
