use native.Mathlib.Omega.{arith}
use mathlib.Core.Path.{◌≡◌, sym, ap, ◌∙◌}
use Prim.Native.Nat.{ℕ, suc, ◌/◌, ◌%◌, ◌^◌}
use native.Mathlib.Numerals.{add-one}
use lib.Dec.{eqb, ltb}
use lib.ListN.{get_or, drop}
use Rattle.num.specs.Bytes.{le}
use Rattle.num.proofs.Bytes.{below-bit, le-drop, byte_above, byte-below}
use Rattle.sqv4.proofs.check.clean.Goals as goal

pub returns-then-byte_at-used-ne0 : goal.returns-then-byte_at-used-ne0
returns-then-byte_at-used-ne0 c =
    let p = c.args.payload.now in
    let n = c.args.used in
    sym
    (below-bit p (λ i. (c.shared_slice_known-1.given i).fits) n ∙ ap (λ (x : ℕ). ltb x (2 ^ (n % 8))) (le-drop p (n / 8))
    ∙ byte_above (get_or p (n / 8) 0) (le (drop (suc (n / 8)) p)) (n % 8) (λ q. c.if-byte_at-used-ne0.true (rw c.byte_at.ensures q)))

pub returns : goal.returns
returns c =
    let p = c.args.payload.now in
    let n = c.args.used in
    let z : get_or p (n / 8) 0 / 2 ^ (n % 8) ≡ 0 = rw c.byte_at.ensures at c.if-byte_at-used-ne0.false in
    c.zeros.ensures ∙ ap (λ (k : ℕ). eqb (le (drop k p)) 0) (add-one (n / 8))
    ∙ sym
    (below-bit p (λ i. (c.shared_slice_known-1.given i).fits) n ∙ ap (λ (x : ℕ). ltb x (2 ^ (n % 8))) (le-drop p (n / 8))
    ∙ byte-below (get_or p (n / 8) 0) (le (drop (suc (n / 8)) p)) (n % 8) (omega arith) z)
