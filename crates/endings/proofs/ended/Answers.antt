use mathlib.Core.Path.{refl}
use mathlib.Core.Bool.{false}
use native.Mathlib.Omega.{arith}
use lib.ListN.{get_or}
use Rattle.endings.specs.Sets.{off, set_of}
use Rattle.endings.proofs.Sets.{bit-more, set_more}
use Rattle.endings.proofs.ended.Goals as goal

pub loop-ch-init : goal.loop-ch-init
unfolding set_of
loop-ch-init c = (omega arith, refl, omega arith, refl)

pub loop-ch-preserved : goal.loop-ch-preserved
loop-ch-preserved c =
    let l = c.loop-ch in
    let a = c.args in
    (omega arith, bit-more l.ch l.bit l.invariant.1, omega (arith, c.bit_where_off-set.ensures.1, l.invariant.2), set_more l.ch l.set l.bit _ (λ n. off (get_or a.was n false) (get_or a.is n false)) l.invariant.1 l.invariant.3 c.bit_where_off-set.ensures.0)
