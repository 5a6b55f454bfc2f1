use Rattle.std.proofs.Common.{◌*◌, arith, w32}
use mir.Facts.{to_z_pos}
use Rattle.adpcm.specs.Codes.{level_indexes}
use Rattle.adpcm.proofs.Tables.{level-moves}
use Rattle.adpcm.proofs.level_adjust.Goals as goal

pub returns-then-level-eq0 : goal.returns-then-level-eq0
unfolding level_indexes
returns-then-level-eq0 c = rw c.if-level-eq0.true

pub returns : goal.returns
returns c =
    let n = c.args.level in
    rw (to_z_pos w32 {n = 2 * n} (omega (arith, c.requires))) (level-moves n c.requires (omega arith))
