use mathlib.Core.Path.{◌≡◌, sym, ap, ap₂, ◌∙◌}
use Prim.Native.Nat.{ℕ, ◌+◌, ◌-◌}
use lib.ListN.{length, drop}
use native.Mathlib.Omega.{arith}
use Rattle.version.specs.Spaces.{leading, trim_start_in}
use Rattle.version.proofs.Texts.{start-done, start-out, start-turn}
use Rattle.version.proofs.spaces.text_start.Goals as goal

one-less : (n k : ℕ) → n - (k + 1) ≡ n - k - 1
one-less n k = omega arith

pub returns-then-w-eq0 : goal.returns-then-w-eq0
returns-then-w-eq0 c = sym (start-done (length c.args.s.now - c.loop-turn._turn) (drop (length c.args.s.now - c.loop-turn.rest) c.args.s.now) (sym (c.leading-w.ensures ∙ ap leading c.tail.ensures) ∙ c.if-w-eq0.true)) ∙ c.loop-turn.invariant.1

pub loop-turn-preserved : goal.loop-turn-preserved
loop-turn-preserved c =
    let s = c.args.s.now in
    let l = c.loop-turn in
    let e = (c.leading-w.ensures ∙ ap leading c.tail.ensures) in (
      omega (arith, c.saturating_sub-rest.ensures),
      ap₂ (λ (k r : ℕ). trim_start_in k (drop (length s - r) s)) (one-less (length s) l._turn) c.saturating_sub-rest.ensures
          ∙ sym (start-turn s l.rest l.invariant.0 (length s - l._turn) c.leading-w.result (omega arith) e c.if-w-eq0.false)
          ∙ l.invariant.1,
    )

pub returns : goal.returns
returns c =
    let s = c.args.s.now in
    let l = c.loop-turn in
    let e : length s - l._turn ≡ 0 = omega arith in
    sym (ap (λ (k : ℕ). trim_start_in k (drop (length s - l.rest) s)) e ∙ start-out (drop (length s - l.rest) s)) ∙ l.invariant.1
