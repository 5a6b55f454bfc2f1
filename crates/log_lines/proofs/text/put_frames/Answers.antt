use mathlib.Core.Path.{◌≡◌, refl}
use mathlib.Core.List.{[], ◌∷◌, ◌++◌}
use Prim.Native.Nat.{◌+◌}
use native.Mathlib.Omega.{arith}
use lib.ListN.{length, length-append}
use borrow.Author.Rules.{rules}
use mir.Val.{SFits}
use mir.Syntax.{w32}
use Rattle.num.proofs.Integers.{back}
use Rattle.log_lines.proofs.Texts.{frames-none, frames-next}
use Rattle.decimal.proofs.Loops.{element}
use Rattle.log_lines.proofs.Lengths.{frames-length-none, frames-length-next}
use Rattle.log_lines.proofs.text.put_frames.Goals as goal
use Rattle.log_lines.proofs.text.put_frames.Goals.{In-None}

pub loop-l-init : goal.loop-l-init
loop-l-init c = (omega arith, search rules, search rules, frames-length-none _ _, record { same = refl; put = frames-none _ _ _ _ _ c.min-out.ensures })

pub loop-l-preserved : goal.loop-l-preserved
loop-l-preserved c =
    let i = length c.loop-l.yielded in
    let v = c.loop-l.invariant in
    let s = c.in-Some.ensures.steps in
    let l = element _ _ _ _ i v.1 s.0 in
    let r = element _ _ _ _ i v.2 s.1 in
    let n : length (c.loop-l.yielded ++ (c.in-Some.field-0-0, c.in-Some.field-0-1) ∷ []) ≡ i + 1 = length-append c.loop-l.yielded _ in
    let a : SFits w32 c.in-Some.field-0-0.now = search rules in
    let b : SFits w32 c.in-Some.field-0-1.now = search rules in
    rw n (omega (arith, l.0, r.0), l.2, r.2, frames-length-next c.args.left.now c.args.right.now i v.3, frames-next _ _ _ c.args.left.now c.args.right.now i v.4 (rw (back w32 _ a, back w32 _ b, l.1, r.1) at c.put_frame.ensures))
