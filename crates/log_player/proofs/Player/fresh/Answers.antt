use mathlib.Core.Path.{ap}
use Rattle.s3w2.specs.declared.Called.{Called}
use Rattle.log_player.specs.declared.Made.{Made}
use Rattle.log_player.specs.Worlds.{made_player}
use Rattle.log_player.proofs.Player.fresh.Goals as goal

-- the player of a chip that was made
abbrev made : Called → Made
made called = record { player = record { chip = called.chip; left = 0; right = 0 }; answer = called.answer }

pub returns-clause-result : goal.returns-clause-result
unfolding made_player
returns-clause-result c = (ap made c.with_version-made.ensures.called)
