use mir.Syntax.{w16}
use Rattle.num.proofs.Integers.{back}
use Rattle.ticks.specs.Finish.{finished}
use Rattle.ticks.proofs.Oscillator.finish.Goals as goal

pub returns : goal.returns
unfolding finished
returns c = rw (back w16 _ (record { sfits = c.centred-value.type_inv }), c.centred-value.ensures, c.slewed.ensures, c.slew-slew.ensures.result)
