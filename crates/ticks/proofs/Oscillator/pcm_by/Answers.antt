use mathlib.Core.Path.{◌≡◌, ap, ◌∙◌}
use mathlib.Core.Bool.{true}
use Prim.Native.Nat.{ℕ, ◌≤◌}
use native.Mathlib.Omega.{arith}
use lib.Dec.{eqb}
use lib.IntN.{ℤ}
use borrow.Author.Tests.{eqb-true}
use mir.Syntax.{w16, w32}
use mir.Val.{SFits}
use Rattle.num.proofs.Integers.{back}
use Rattle.ticks.proofs.Waves.{finished-plain}
use Rattle.ticks.proofs.Pcms.{pcm-is}
use Rattle.ticks.proofs.Oscillator.pcm_by.Goals as goal

phase-only : {m : ℕ} → eqb m 1 ≡ true → m ≤ 4
phase-only {m} e = omega (arith, eqb-true m 1 e)

pub returns : goal.returns
returns c =
    let a = c.args in
    let t : SFits w16 a.t.last_sample = record { sfits = omega arith } in
    let b : SFits w32 c.phase_offset-by.result = record { sfits = c.phase_offset-by.type_inv } in
    let q : SFits w16 c.centred.result = record { sfits = c.centred.type_inv } in
    pcm-is a.s a.p a.ram.now a.t a.self _ _ _ (record { oscillator = a.self; q8 = c.centred.result }) _
    (rw (back w32 _ b) at c.moved.ensures
    ∙ rw (c.whole.ensures.result, rw (back w16 _ t) at c.phase_offset-by.ensures, c.requires.1))
    c.pcm_address-at.ensures.result c.pcm_tap-q8.ensures
    (ap (λ (z : ℤ). record { oscillator = a.self; q8 = z }) c.centred.ensures ∙ finished-plain a.s a.self _ _ (phase-only c.requires.1))
    (rw (back w16 _ q) at c.after_pcm.ensures)
