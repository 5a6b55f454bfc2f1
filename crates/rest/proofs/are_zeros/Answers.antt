use mathlib.Core.Path.{refl, sym, ap, ◌∙◌}
use mathlib.Core.Bool.{Bool}
use Prim.Native.Nat.{ℕ}
use native.Mathlib.Omega.{arith}
use lib.Dec.{eqb}
use lib.IntN.{pos}
use lib.ListN.{get_or}
use borrow.Author.Rules.{rules}
use Rattle.rest.specs.Rest.{is_zero, every}
use Rattle.rest.proofs.Tests.{zero-back, one_passes, one-fails}
use Rattle.rest.proofs.are_zeros.Goals as goal
use Rattle.rest.proofs.are_zeros.Goals.{then-not-is_zero, else-not-is_zero}

pub loop-fragment-init : goal.loop-fragment-init
unfolding every
loop-fragment-init c = (omega arith, refl)

pub loop-fragment-preserved : goal.loop-fragment-preserved
loop-fragment-preserved c =
    let l = c.loop-fragment in
    let f : ℕ → Bool = λ j. is_zero (get_or c.args.fragments j (pos 0)) in
    let z = c.is_zero.ensures ∙ zero-back (get_or c.args.fragments l.fragment-index (pos 0)) (search rules) in
    elim c.if-not-is_zero.branch [
      | then-not-is_zero w ↦ (omega (arith, w.others-is, l.invariant.0), ap (λ (m : ℕ). eqb m 0) w.others-is ∙ one-fails l.others l.fragment-index f l.invariant.1 (sym z ∙ w.if-not-is_zero.true))
      | else-not-is_zero w ↦ (omega (arith, w.others-is, l.invariant.0), ap (λ (m : ℕ). eqb m 0) w.others-is ∙ one_passes l.others l.fragment-index f l.invariant.1 (sym z ∙ w.if-not-is_zero.false))
    ]
