use mathlib.Core.Path.{◌≡◌, refl}
use mathlib.Core.List.{[], ◌∷◌, ◌++◌}
use Prim.Native.Nat.{◌+◌}
use native.Mathlib.Omega.{arith}
use lib.IntN.{pos}
use lib.ListN.{length, get_or, length-append}
use mir.Syntax.{w16}
use mir.Val.{SFits}
use borrow.Author.Rules.{rules}
use Rattle.num.proofs.Integers.{back}
use Rattle.wav.proofs.Bytes.{frames-none, frames-next}
use Rattle.decimal.proofs.Loops.{element}
use Rattle.wav.proofs.samples.put_sides.Goals as goal

pub loop-l-init : goal.loop-l-init
loop-l-init c = (omega arith, search rules, search rules, record { same = refl; put = frames-none _ (λ i. get_or c.args.left.now i (pos 0)) (λ i. get_or c.args.right.now i (pos 0)) _ _ c.min-out.ensures })

pub loop-l-preserved : goal.loop-l-preserved
loop-l-preserved c =
    let i = length c.loop-l.yielded in
    let v = c.loop-l.invariant in
    let s = c.in-Some.ensures.steps in
    let l = element _ _ _ _ i v.1 s.0 in
    let r = element _ _ _ _ i v.2 s.1 in
    let n : length (c.loop-l.yielded ++ (c.in-Some.field-0-0, c.in-Some.field-0-1) ∷ []) ≡ i + 1 = length-append c.loop-l.yielded _ in
    let a : SFits w16 c.in-Some.field-0-0.now = search rules in
    let b : SFits w16 c.in-Some.field-0-1.now = search rules in
    rw n (omega (arith, l.0, r.0), l.2, r.2, frames-next _ _ _ (λ i. get_or c.args.left.now i (pos 0)) (λ i. get_or c.args.right.now i (pos 0)) i v.3 (rw (back w16 _ a, back w16 _ b, l.1, r.1) at c.put_frame.ensures))
