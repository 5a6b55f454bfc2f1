use Rattle.std.proofs.Common.{◌≡◌, ℕ, ◌+◌, ◌-◌, ◌*◌, ◌≤◌, List, [], ◌∷◌, ◌++◌, length, ℤ, length-append, ap, ◌∙◌, sym, subst, arith, rules}
use mathlib.Core.Logic.{inl, inr}
use borrow.Rule.Slice.PartMut.{put_mid}
use Rattle.chip_sound.proofs.Pairs.{Pairing, part-long, put-long, pairing-begin, pairing-turn, pairing-over, room}
use Rattle.chip_sound.proofs.both.pair.Goals as goal
use Rattle.chip_sound.proofs.both.pair.Goals.{In-Some}

pub loop-n-init : goal.loop-n-init
loop-n-init c = (search rules, search rules, search rules, rw (c.into_iter-n-iterator.ensures.into_iter_gives) (pairing-begin c.args.first.now c.args.second.now _ _ _ (search rules) (search rules) c.requires.2))

-- the frame's number, its stems of each core, and the room for them
record Taken (c : In-Some) : Type 0 where
  pub number : c.in-Some.n ≡ length c.loop-n.yielded
  pub one : length c.in-Some.one.now ≡ 16
  pub other : length c.in-Some.other.now ≡ 16
  pub there : 32 * c.in-Some.n + 32 ≤ length c.loop-n.stems

taken : (c : In-Some) → Taken c
taken c =
    let v = c.loop-n.invariant in
    let s = c.in-Some.ensures.steps in
    let e = s.1 ∙ v.0 in
    let one : length c.in-Some.one.now ≡ 16 = s.0.0.1.1 ∙ v.1 in
    let r = room c.args.first.now c.args.second.now (length c.loop-n.yielded) _ _ c.loop-n.stems v.3 (omega (arith, one, ap length s.0.0.1.0, length-append c.in-Some.one.now c.next.new.self.iter.a.rest.now)) in
    record { number = e; one = one; other = s.0.1.1.1 ∙ v.2; there = omega (arith, r, e) }

pub copy_from_slice-requires : goal.copy_from_slice-requires
copy_from_slice-requires c =
    let t = taken (goal.at.copy_from_slice-requires c).In-Some in
    let n = c.in-Some.n in
    part-long c.loop-n.stems (32 * n) (32 * n + 16 - 32 * n) (omega (arith, t.there)) ∙ omega (arith, t.one)

pub copy_from_slice-requires-in-loop-n : goal.copy_from_slice-requires-in-loop-n
copy_from_slice-requires-in-loop-n c =
    let t = taken (goal.at.copy_from_slice-requires-in-loop-n c).In-Some in
    let n = c.in-Some.n in
    let m = 32 * n + 16 - 32 * n in
    let long = put-long c.loop-n.stems c.copy_from_slice.new.self (32 * n) m (omega (arith, t.there)) (ap length c.copy_from_slice.ensures.after ∙ omega (arith, t.one)) in
    part-long (put_mid (32 * n) m c.loop-n.stems c.copy_from_slice.new.self) (32 * n + 16) (32 * n + 16 + 16 - (32 * n + 16)) (omega (arith, t.there, long)) ∙ omega (arith, t.other)

pub loop-n-preserved : goal.loop-n-preserved
loop-n-preserved c =
    let t = taken (goal.at.loop-n-preserved c).In-Some in
    let i = length c.loop-n.yielded in
    let v = c.loop-n.invariant in
    let s = c.in-Some.ensures.steps in
    let n : length (c.loop-n.yielded ++ (c.in-Some.n, (c.in-Some.one, c.in-Some.other)) ∷ []) ≡ i + 1 = length-append c.loop-n.yielded _ in
    let a = c.args.first.now in
    let b = c.args.second.now in
    let k = sym t.number in
    let one = sym c.copy_from_slice.ensures.after in
    let other = sym c.copy_from_slice-in-loop-n.ensures.after in
    let turn = pairing-turn a b i _ _ c.loop-n.stems v.3 c.in-Some.one.now c.in-Some.other.now _ _ (32 * i + 16 - 32 * i) (32 * i + 16 + 16 - (32 * i + 16)) s.0.0.1.0 s.0.1.1.0 t.one t.other (omega arith) (omega arith) in
    rw n (
      s.2 ∙ ap (λ (k : ℕ). k + 1) v.0,
      s.0.0.0 ∙ v.1,
      s.0.1.0 ∙ v.2,
      subst (λ (l : List ℤ). Pairing a b (i + 1) c.next.new.self.iter.a.rest.now c.next.new.self.iter.b.rest.now l) (λ j. put_mid (32 * k j + 16) (32 * k j + 16 + 16 - (32 * k j + 16)) (put_mid (32 * k j) (32 * k j + 16 - 32 * k j) c.loop-n.stems (one j)) (other j)) turn,
    )

pub returns : goal.returns
returns c =
    let v = c.loop-n.invariant in
    pairing-over c.args.first.now c.args.second.now _ _ _ c.loop-n.stems v.3 c.requires.0 c.requires.1 (elim c.in-None.ensures.steps.0 [
      | inl e ↦ inl (omega (arith, e.1.1.0, v.1))
      | inr e ↦ inr (omega (arith, e.1.1.0, v.2))
    ])
