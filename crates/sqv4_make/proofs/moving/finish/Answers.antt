use Rattle.std.proofs.Common.{sym, ◌∙◌}
use Rattle.sqv4_make.proofs.Rooms.{some-lines}
use Rattle.sqv4_make.proofs.moving.finish.Goals as goal

pub write_made-requires : goal.write_made-requires
write_made-requires c = (some-lines _ (sym c.is_whole.ensures ∙ c.if-is_whole.true), c.requires.0, c.requires.1)
