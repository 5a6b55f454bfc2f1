use mathlib.Core.Path.{◌≡◌, sym, ap, ◌∙◌}
use Prim.Native.Nat.{ℕ}
use lib.ListN.{length, drop}
use native.Mathlib.Omega.{arith}
use Rattle.version.proofs.Texts.{v_next, v-stop, v-end}
use Rattle.version.proofs.names.v_count.Goals as goal

pub returns-then-not-is_v : goal.returns-then-not-is_v
returns-then-not-is_v c = sym (v-stop c.args.s.now c.loop-at.at (omega arith) (sym c.is_v.ensures ∙ c.if-not-is_v.true)) ∙ c.loop-at.invariant

pub loop-at-preserved : goal.loop-at-preserved
loop-at-preserved c = sym (v_next c.args.s.now c.loop-at.at (omega arith) (sym c.is_v.ensures ∙ c.if-not-is_v.false)) ∙ c.loop-at.invariant

pub returns : goal.returns
returns c =
    let s = c.args.s.now in
    let e : length s ≡ c.loop-at.at = omega arith in
    ap (λ (k : ℕ). drop k s) e ∙ sym (v-end s c.loop-at.at (omega arith)) ∙ c.loop-at.invariant
