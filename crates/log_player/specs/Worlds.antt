-- A chip with its peaks, and the RAM and the queue buffer that are lent to it.
use Rattle.std.specs.Prelude.{List, ℕ, ℤ, pos, replicate}
use Rattle.cores.specs.Sizes.{chip_queues}
use Rattle.version.specs.declared.SguVersion.TheVariants.{V3_1}
use Rattle.s3w2.specs.declared.Chip.{Chip}
use Rattle.s3w2.specs.Fresh.{made_called}
use Rattle.log_player.specs.declared.Made.{Made}
use Rattle.log_player.specs.declared.Player.{Player}

pub record World : Type 0 where
  pub player : Player
  pub ram : List ℕ
  pub queues : List ℤ

abbrev pub world : Player → List ℕ → List ℤ → World
world player ram queues = record { player = player; ram = ram; queues = queues }

abbrev pub with_chip : Player → Chip → Player
with_chip p chip = record { chip = chip; left = p.left; right = p.right }

-- a fresh V3.1 chip over a RAM of some length
abbrev pub fresh_player : ℕ → Player
fresh_player ram = record { chip = (made_called ram V3_1).chip; left = 0; right = 0 }

-- it is given even where the RAM's length is refused, and so is the answer
unfoldable pub made_player : ℕ → Made
made_player ram = record { player = fresh_player ram; answer = (made_called ram V3_1).answer }

-- the log program's (docs/SPECIFICATION.md, section 11): 65,536 bytes of zeros
abbrev pub fresh_world : World
fresh_world = world (fresh_player 65536) (replicate 65536 0) (replicate chip_queues (pos 0))
