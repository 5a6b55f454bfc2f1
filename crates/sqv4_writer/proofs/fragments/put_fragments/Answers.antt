use mathlib.Core.Path.{◌≡◌, refl, ap, ◌∙◌}
use mathlib.Core.List.{[], ◌∷◌, ◌++◌}
use Prim.Native.Nat.{ℕ, ◌+◌, ◌*◌, min}
use native.Mathlib.Omega.{arith}
use lib.ListN.{length, length-append, length-drop}
use borrow.Author.Rules.{rules}
use Rattle.sqv4_writer.specs.Streams.{samples_at, fragment_for, fragment_count}
use Rattle.sqv4_writer.proofs.Series.{none-put, one-put, chunk-is, chunks-left}
use Rattle.sqv4_writer.proofs.fragments.put_fragments.Goals as goal

pub loop-part-init : goal.loop-part-init
loop-part-init c = (omega arith, search rules, search rules, record { same = refl; put = none-put _ _ _ c.requires })

pub put_fragment-requires : goal.put_fragment-requires
put_fragment-requires c = let s = c.in-Some.ensures.steps in omega (arith, s.1.1, c.loop-part.invariant.1)

pub loop-part-preserved : goal.loop-part-preserved
loop-part-preserved c =
    let a = c.args in
    let p = length c.loop-part.yielded in
    let v = c.loop-part.invariant in
    let s = c.in-Some.ensures.steps in
    let rest = c.loop-part.part-iterator.rest.now in
    let size : length c.in-Some.part.now ≡ min 63 (length rest) = s.1.1 ∙ ap (λ (n : ℕ). min n (length rest)) v.1 in
    let n : length (c.loop-part.yielded ++ c.in-Some.part ∷ []) ≡ p + 1 = length-append c.loop-part.yielded _ in
    let is = chunk-is a.samples.now rest _ _ p v.2 s.1.0 size in
    rw n (
      omega (arith, s.1.2, ap length v.2, length-drop (p * 63) a.samples.now),
      s.0 ∙ v.1,
      chunks-left a.samples.now rest _ _ p v.2 s.1.0 size,
      one-put (λ q. fragment_for a.terms.variant a.terms.volume a.terms.index (samples_at a.samples.now q)) _ _ _ p v.3 (rw is at c.put_fragment.ensures),
    )

pub returns : goal.returns
returns c =
    let v = c.loop-part.invariant in
    let s = c.in-None.ensures.steps in
    let all : length c.loop-part.yielded ≡ fragment_count (length c.args.samples.now) = omega (arith, v.0, s.1.0, ap length v.2, length-drop (length c.loop-part.yielded * 63) c.args.samples.now) in
    rw all at v.3
