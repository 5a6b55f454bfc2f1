use mathlib.Core.Path.{ap, ◌∙◌}
use native.Mathlib.Omega.{arith}
use Rattle.rest.specs.Rest.{rests}
use Rattle.chip_sound.proofs.Seconds.{not_there, there-not}
use Rattle.chip_sound.proofs.both.second_sounds.Goals as goal

pub returns-then-core_count-lt-NUM_CORES : goal.returns-then-core_count-lt-NUM_CORES
returns-then-core_count-lt-NUM_CORES c = not_there c.args.chip c.core_count.result c.core_count.ensures (omega (arith, c.if-core_count-lt-NUM_CORES.true))

pub returns : goal.returns
returns c = there-not c.args.chip c.core_count.result c.rests.result c.core_count.ensures (omega (arith, c.if-core_count-lt-NUM_CORES.false)) (c.rests.ensures ∙ ap rests c.core_at.ensures)
