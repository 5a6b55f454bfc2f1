use mathlib.Core.Path.{◌≡◌, refl, ap}
use mathlib.Core.List.{[], ◌∷◌, ◌++◌}
use Prim.Native.Nat.{◌+◌, ◌*◌, ◌/◌}
use native.Mathlib.Omega.{arith}
use lib.IntN.{pos}
use lib.ListN.{length, get_or, length-append, length-drop}
use mir.Syntax.{w16}
use mir.Val.{SFits}
use borrow.Author.Rules.{rules}
use Rattle.num.proofs.Integers.{back}
use Rattle.wav.specs.Samples.{left_stem, right_stem}
use Rattle.wav.proofs.Bytes.{frames-none, frames-next, no-channel, a-channel}
use Rattle.decimal.proofs.Loops.{frame-at, frames-left}
use Rattle.wav.proofs.samples.put_channel.Goals as goal

pub returns-then-channel-gt-LAST_CHANNEL : goal.returns-then-channel-gt-LAST_CHANNEL
returns-then-channel-gt-LAST_CHANNEL c = record { same = refl; put = no-channel _ c.args.stems.now _ _ c.args.channel _ c.if-channel-gt-LAST_CHANNEL.true c.min-out.ensures }

pub loop-frame-init : goal.loop-frame-init
loop-frame-init c = (omega arith, search rules, search rules, record { same = refl; put = frames-none _ _ _ _ _ c.min-out.ensures })

pub loop-frame-preserved : goal.loop-frame-preserved
loop-frame-preserved c =
    let i = length c.loop-frame.yielded in
    let v = c.loop-frame.invariant in
    let s = c.in-Some.ensures.steps in
    let f = c.in-Some.frame.now in
    let at = 2 * c.args.channel in
    let size : length f ≡ 16 = omega (arith, s.1.1, v.1) in
    let l : SFits w16 (get_or f at (pos 0)) = search rules in
    let r : SFits w16 (get_or f (at + 1) (pos 0)) = search rules in
    let n : length (c.loop-frame.yielded ++ c.in-Some.frame ∷ []) ≡ i + 1 = length-append c.loop-frame.yielded _ in
    let at-l = frame-at c.args.stems.now _ f _ i at (16 * i + at) v.2 s.1.0 size (omega arith) refl in
    let at-r = frame-at c.args.stems.now _ f _ i (at + 1) (16 * i + at + 1) v.2 s.1.0 size (omega arith) (omega arith) in
    let p = rw (back w16 _ l, back w16 _ r, at-l, at-r) at c.put_frame.ensures in
    rw n (omega (arith, ap length v.2, ap length s.1.0, length-drop (16 * i) c.args.stems.now, length-append f c.next.new.self.rest.now), omega (arith, s.0, v.1), frames-left _ _ f _ i v.2 s.1.0 size, frames-next _ _ _ (left_stem c.args.channel c.args.stems.now) (right_stem c.args.channel c.args.stems.now) i v.3 p)

pub returns : goal.returns
returns c =
    let v = c.loop-frame.invariant in
    let s = c.in-None.ensures.steps in
    let all : length c.loop-frame.yielded ≡ length c.args.stems.now / 16 = omega (arith, s.1.0, v.0, v.1, ap length v.2, length-drop (16 * length c.loop-frame.yielded) c.args.stems.now) in
    a-channel _ _ c.args.stems.now c.args.channel _ c.if-channel-gt-LAST_CHANNEL.false (rw all at v.3)
