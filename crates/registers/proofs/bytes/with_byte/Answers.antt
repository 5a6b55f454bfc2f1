use native.Mathlib.Omega.{arith}
use Prim.Native.Nat.{◌*◌}
use Rattle.num.proofs.Bits.{put-field}
use Rattle.registers.proofs.bytes.with_byte.Goals as goal

pub returns : goal.returns
returns c = put-field (8 * c.args.index) 8 c.args.value c.args.x 32 (omega arith) (omega arith) (omega arith)
