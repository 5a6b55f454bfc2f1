use borrow.Author.Rules.{rules}
use Rattle.std.proofs.Common.{◌≡◌, [], ◌∷◌, ◌++◌, ◌+◌, ◌*◌, ◌/◌, length, get_or, pos, ap, refl, arith, w16, SFits, length-append, length-drop}
use Rattle.levels.proofs.Sums.{peak-none, peak-next, no-voice, a-voice}
use Rattle.decimal.proofs.Loops.{frame-at, frames-left}
use Rattle.num.proofs.Integers.{back}
use Rattle.levels.proofs.voice_peak.Goals as goal

pub returns-then-channel-gt-LAST_CHANNEL : goal.returns-then-channel-gt-LAST_CHANNEL
returns-then-channel-gt-LAST_CHANNEL c = no-voice _ _ c.args.stems.now c.if-channel-gt-LAST_CHANNEL.true

pub loop-frame-init : goal.loop-frame-init
loop-frame-init c = (omega arith, search rules, search rules, peak-none _ _ _)

pub loop-frame-preserved : goal.loop-frame-preserved
loop-frame-preserved c =
    let i = length c.loop-frame.yielded in
    let v = c.loop-frame.invariant in
    let s = c.in-Some.ensures.steps in
    let f = c.in-Some.frame.now in
    let at = 2 * c.args.channel in
    let size : length f ≡ 16 = omega (arith, s.1.1, v.1) in
    let x : SFits w16 (get_or f at (pos 0)) = search rules in
    let y : SFits w16 (get_or f (at + 1) (pos 0)) = search rules in
    let left = frame-at c.args.stems.now _ f _ i at (16 * i + at) v.2 s.1.0 size (omega arith) refl in
    let right = frame-at c.args.stems.now _ f _ i (at + 1) (16 * i + at + 1) v.2 s.1.0 size (omega arith) (omega arith) in
    let n : length (c.loop-frame.yielded ++ c.in-Some.frame ∷ []) ≡ i + 1 = length-append c.loop-frame.yielded _ in
    rw n (
      omega (arith, ap length v.2, ap length s.1.0, length-drop (16 * i) c.args.stems.now, length-append f c.next.new.self.rest.now),
      omega (arith, s.0, v.1),
      frames-left _ _ f _ i v.2 s.1.0 size,
      peak-next _ _ c.max-largest.result _ _ _ c.args.channel i c.args.stems.now (rw (back w16 _ x, left) at c.unsigned_abs.ensures.value) (rw (back w16 _ y, right) at c.unsigned_abs-in-loop-frame.ensures.value) v.3 (search rules) (search rules),
    )

pub returns : goal.returns
returns c =
    let v = c.loop-frame.invariant in
    let s = c.in-None.ensures.steps in
    let all : length c.loop-frame.yielded ≡ length c.args.stems.now / 16 = omega (arith, s.1.0, v.0, v.1, ap length v.2, length-drop (16 * length c.loop-frame.yielded) c.args.stems.now) in
    a-voice _ _ _ c.args.stems.now c.if-channel-gt-LAST_CHANNEL.false (rw all at v.3)
