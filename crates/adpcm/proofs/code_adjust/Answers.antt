use Rattle.std.proofs.Common.{◌-◌, ◌*◌, ◌%◌, arith, w32, le-ltb, lt-ltb}
use lib.Bits.{and_mask}
use mir.Facts.{to_z_pos}
use Rattle.adpcm.proofs.Tables.{code-moves}
use Rattle.adpcm.proofs.code_adjust.Goals as goal

pub returns-then-size-lt4 : goal.returns-then-size-lt4
returns-then-size-lt4 c = rw (lt-ltb _ 4 (rw (and_mask c.args.code 3) at c.if-size-lt4.true)) at (code-moves c.args.code)

pub returns : goal.returns
returns c =
    let n = c.args.code in
    rw (and_mask n 3, to_z_pos w32 {n = 2 * (n % 8) - 6} (omega arith)) (rw (le-ltb (n % 8) 4 (rw (and_mask n 3) at c.if-size-lt4.false)) at (code-moves n))
