use native.Mathlib.Omega.{arith}
use mathlib.Core.Path.{◌∙◌}
use mir.Syntax.{w16}
use mir.Val.{SFits}
use Rattle.num.proofs.Integers.{back}
use Rattle.ticks.specs.Oscillators.{no_target}
use Rattle.ticks.proofs.Pcms.{pcm-is}
use Rattle.ticks.proofs.Oscillator.pcm_alone.Goals as goal

pub returns : goal.returns
returns c =
    let a = c.args in
    let q : SFits w16 c.finish-r.result.q8 = record { sfits = omega arith } in
    pcm-is a.s a.p a.ram.now no_target a.self _ _ _ _ _ (c.whole.ensures.result ∙ rw c.requires.1)
    c.pcm_address-at.ensures.result c.pcm_tap-q8.ensures c.finish-r.ensures (rw (back w16 _ q) at c.after_pcm.ensures)
