use Rattle.num.proofs.Bytes.{le-drop, le-past, zero-byte}
use Rattle.num.specs.Bytes.{le}
use borrow.Author.Tests.{eq-eqb, ne_eqb}
use lib.ListN.{drop, get_or}
use lib.Dec.{eqb}
use native.Mathlib.Numerals.{add-one}
use mathlib.Core.List.{List}
use mathlib.Core.Path.{sym, ap, ◌∙◌}
use Prim.Native.Nat.{ℕ, suc}
use native.Mathlib.Omega.{arith}
use Rattle.sqv4.proofs.check.zeros.Goals as goal

pub returns-then-byte-ne0 : goal.returns-then-byte-ne0
returns-then-byte-ne0 c =
    let l = c.loop-byte in
    let s = c.tail-rest.result.now in
    sym
    (ap (λ (xs : List ℕ). eqb (le xs) 0) (sym c.tail-rest.ensures) ∙ l.invariant
    ∙ ne_eqb (le (drop l.byte-index s)) 0 (λ q. c.if-byte-ne0.true (omega (arith, le-drop s l.byte-index))))

pub loop-byte-preserved : goal.loop-byte-preserved
loop-byte-preserved c =
    let l = c.loop-byte in
    let s = c.tail-rest.result.now in
    l.invariant ∙ ap (λ (n : ℕ). eqb n 0) (le-drop s l.byte-index) ∙ zero-byte (get_or s l.byte-index 0) (le (drop (suc l.byte-index) s)) c.if-byte-ne0.false
    ∙ rw (add-one l.byte-index)

pub returns : goal.returns
returns c =
    let l = c.loop-byte in
    let s = c.tail-rest.result.now in
    sym
    (ap (λ (xs : List ℕ). eqb (le xs) 0) (sym c.tail-rest.ensures) ∙ l.invariant
    ∙ eq-eqb (le (drop l.byte-index s)) 0 (le-past s l.byte-index (omega arith)))
