use native.Mathlib.Omega.{arith}
use mathlib.Core.Path.{◌≡◌}
use Prim.Native.Nat.{ℕ}
use lib.IntN.{ℤ}
use mir.Syntax.{w16, w32}
use mir.Val.{SFits}
use Rattle.num.proofs.Integers.{back}
use Rattle.tone.specs.Mix.{master_gain, high_nibble, low_nibble, pan, wrapping_add}
use Rattle.ticks.specs.Mix.{heard}
use Rattle.ticks.specs.declared.Sides.{Sides}
use Rattle.ticks.proofs.Sides.with.Goals as goal

with-is : (v : Sides) (x g : ℤ) (panpot high low : ℕ) (p l q r : ℤ) → g ≡ master_gain x → high ≡ high_nibble panpot → p ≡ pan g high → l ≡ wrapping_add v.left p
    → low ≡ low_nibble panpot → q ≡ pan g low → r ≡ wrapping_add v.right q → ◌≡◌ {A = Sides} (record { sample = x; left = l; right = r }) (heard v x panpot)
unfolding heard
with-is v x g panpot high low p l q r eg eh ep el ew eq er = rw (el, er, ep, eq, eh, ew, eg)

pub returns : goal.returns
returns c =
    let a = c.args in
    let l : SFits w32 a.self.left = record { sfits = omega arith } in
    let r : SFits w32 a.self.right = record { sfits = omega arith } in
    let p : SFits w32 c.pan.result = record { sfits = c.pan.type_inv } in
    let q : SFits w32 c.pan-2.result = record { sfits = c.pan-2.type_inv } in
    rw (back w16 _ c.ranges.sample, back w32 _ (record { sfits = c.wrapping_add.type_inv }), back w32 _ (record { sfits = c.wrapping_add-2.type_inv }))
    (with-is a.self a.sample a.gained a.panpot _ _ _ _ _ _ c.requires c.high_nibble.ensures.result
    (rw (back w16 _ c.ranges.gained) at c.pan.ensures.result)
    (rw (back w32 _ l, back w32 _ p) at c.wrapping_add.ensures)
    c.low_nibble.ensures.result
    (rw (back w16 _ c.ranges.gained) at c.pan-2.ensures.result)
    (rw (back w32 _ r, back w32 _ q) at c.wrapping_add-2.ensures))
