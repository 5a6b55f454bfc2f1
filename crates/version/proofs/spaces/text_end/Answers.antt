use mathlib.Core.Path.{◌≡◌, sym, ap, ap₂, ◌∙◌}
use Prim.Native.Nat.{ℕ, ◌+◌, ◌-◌}
use lib.ListN.{length, take}
use native.Mathlib.Omega.{arith}
use Rattle.version.specs.Spaces.{trailing, trim_end_in}
use Rattle.version.proofs.Texts.{end-done, end-out, end-turn}
use Rattle.version.proofs.spaces.text_end.Goals as goal

whole : (n : ℕ) → n - 0 ≡ n
whole n = omega arith

one-less : (n k : ℕ) → n - (k + 1) ≡ n - k - 1
one-less n k = omega arith

pub returns-then-w-eq0 : goal.returns-then-w-eq0
returns-then-w-eq0 c = sym (end-done (length c.args.s.now - c.loop-turn._turn) (take c.loop-turn.rest c.args.s.now) (sym (c.trailing-w.ensures ∙ ap trailing (c.part.ensures ∙ ap (λ (k : ℕ). take k c.args.s.now) (whole c.loop-turn.rest))) ∙ c.if-w-eq0.true)) ∙ c.loop-turn.invariant.1

pub loop-turn-preserved : goal.loop-turn-preserved
loop-turn-preserved c =
    let s = c.args.s.now in
    let l = c.loop-turn in
    let e = (c.trailing-w.ensures ∙ ap trailing (c.part.ensures ∙ ap (λ (k : ℕ). take k c.args.s.now) (whole c.loop-turn.rest))) in (
      omega (arith, c.saturating_sub-rest.ensures),
      ap₂ (λ (k r : ℕ). trim_end_in k (take r s)) (one-less (length s) l._turn) c.saturating_sub-rest.ensures
          ∙ sym (end-turn s l.rest l.invariant.0 (length s - l._turn) c.trailing-w.result (omega arith) e c.if-w-eq0.false)
          ∙ l.invariant.1,
    )

pub returns : goal.returns
returns c =
    let s = c.args.s.now in
    let l = c.loop-turn in
    let e : length s - l._turn ≡ 0 = omega arith in
    sym (ap (λ (k : ℕ). trim_end_in k (take l.rest s)) e ∙ end-out (take l.rest s)) ∙ l.invariant.1
